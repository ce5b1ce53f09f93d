use Rattle.std.proofs.Common.{◌≡◌, ◌-◌, ℕ, List, Some, ap, ◌∙◌, sym, drop, take, arith}
use Rattle.std.proofs.lemmas.List.{length-drop}
use Rattle.dw_base.specs.Names.{digest_of}
use Rattle.dw_base.proofs.Rests.{none_found, rest_before, text_in_piece, whole_piece}
use Rattle.dw_base.proofs.text_ends.rest_at.Goals as goal

same_some : (t u : List ℕ) → Some t ≡ Some u → t ≡ u
same_some t u e = cc

pub returns-in-Some : goal.returns-in-Some
returns-in-Some c t e =
    let piece : List ℕ = take (c.min-end.result - c.args.at) (drop c.args.at c.args.bytes.now) in
    let all : c.in-Some.nul - 0 ≡ c.in-Some.nul = omega arith in
    c.digest_before.ensures ∙ ap (λ n. digest_of (take n piece)) all
    ∙ ap digest_of (same_some (take c.in-Some.nul piece) t
    (sym (text_in_piece c.args.bytes.now piece c.args.at (c.min-end.result - c.args.at)
    c.in-Some.nul c.memchr.result (λ i. piece) c.memchr.ensures c.in-Some.is) ∙ e))

pub returns-in-None : goal.returns-in-None
returns-in-None c t e = c.digest_before-in-None.ensures ∙ rest_before c.args.bytes.now _ c.args.at
    c.args.behind (whole_piece (drop c.args.at c.args.bytes.now) (c.min-end.result - c.args.at)
    (omega (arith, c.min-end.ensures)) (λ lt. omega (
      arith,
      c.min-end.ensures,
      length-drop c.args.at c.args.bytes.now,
    )))
    (none_found _ c.memchr.result c.memchr.ensures c.in-None.is) c.requires.behind t e
