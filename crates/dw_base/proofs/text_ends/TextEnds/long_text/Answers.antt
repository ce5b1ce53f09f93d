use Rattle.std.proofs.Common.{◌≡◌, ◌+◌, ◌-◌, ◌*◌, ◌/◌, ◌<◌, ℕ, List, length, take, drop, get_or, ap, sym}
use Rattle.std.proofs.Common.{◌∙◌, subst, arith}
use Rattle.std.proofs.lemmas.List.{get_or_default}
use Rattle.dw_base.specs.Names.{digest_before}
use Rattle.dw_base.specs.Ends.{IsFirstNul, IsRestAt}
use Rattle.dw_base.proofs.Rests.{digest_of_long}
use Rattle.dw_base.proofs.text_ends.TextEnds.long_text.Goals as goal

pub with_digest-requires : goal.with_digest-requires
with_digest-requires c _ =
    let bytes = c.self.inside.bytes.now in
    let rests = c.self.inside.rests.items in
    let at = c.args.at in
    let p : ℕ = (at / 4096 + 1) * 4096 in
    let j : ℕ = length bytes / 4096 - (at / 4096 + 1) in
    let found = c.in-Some.ensures.lookup.3 in
    let long = ap (λ (xs : List ℕ). length xs) c.self.view_is in
    let read : c.in-Some.rest.now ≡ get_or rests j 0 =
    found.1 c.in-Some.rest.now
    ∙ get_or_default c.deref.result.now j c.in-Some.rest.now 0 found.0
    ∙ ap (λ (rs : List ℕ). get_or rs j 0) c.deref.ensures.value in
    let lt : j < length rests = subst (λ (rs : List ℕ). j < length rs) c.deref.ensures.value found.0 in
    let place : 4096 * (length bytes / 4096 - j) ≡ p =
    omega (arith, c.requires.long, c.requires.within, long) in
    let rest : IsRestAt bytes p c.in-Some.rest.now =
    subst (λ r. IsRestAt bytes p r) (sym read)
    (subst (λ q. IsRestAt bytes q (get_or rests j 0)) place (c.self.invariant.1 j lt)) in
    let all : p - at - 0 ≡ p - at = omega arith in
    c.digest_before.ensures
    ∙ ap (λ n. digest_before c.in-Some.rest.now
    (take n (take (c.args.end - at) (drop at bytes)))) all
    ∙ digest_of_long bytes at p c.args.end c.in-Some.rest.now
    (subst (λ b. IsFirstNul b at c.args.end) (sym c.self.view_is) c.requires.ends)
    (omega (arith, c.requires.within, long)) (omega arith) (omega (arith, c.requires.long)) rest
