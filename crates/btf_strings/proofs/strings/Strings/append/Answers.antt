use Rattle.std.proofs.Common.{◌≡◌, ℕ, List, ◌++◌, ◌∷◌, [], ap, ap₂, sym, ◌∙◌}
use Rattle.std.specs.Option.{option_copied}
use Rattle.std.specs.Str.{bytes_eq}
use Rattle.indexmap.proofs.CallerLemmas.{insert_entry-new}
use Rattle.btf_strings.specs.Names.{Names, offset_of, next_offset}
use Rattle.btf_strings.proofs.Keeping.{is_new, kept_with_one_more, view_with_one_more}
use Rattle.btf_strings.proofs.strings.Strings.append.Goals as goal

placed : (c : goal.In_ok-push)
    → c.insert.new.self.entries ≡ c.self.inside.places.entries ++ (c.args.name, c.args.at) ∷ []
placed c =
    c.in_ok-insert.ensures.entries
    ∙ insert_entry-new
    (λ (a b : List ℕ). bytes_eq a b) c.self.inside.places c.args.name c.args.at
    (is_new (option_copied c.self.inside.base) c.self.inside.base_offsets.entries
    c.self.inside.own.items c.self.inside.places.entries c.args.name c.self.invariant
    (ap (λ (t : Names). offset_of t c.args.name) c.self.view_is ∙ c.requires.new))

pub invariant_of-self-2 : goal.invariant_of-self-2
invariant_of-self-2 c =
    let own : c.push.new.self.items ≡ (c.self.inside.own.items ++ c.args.name) ++ 0 ∷ [] =
    c.in_ok-push.ensures.items
    ∙ ap (λ (xs : List ℕ). xs ++ 0 ∷ []) (c.in_ok-extend_from_slice.ensures.items
    ∙ ap₂ (λ (xs ys : List ℕ). xs ++ ys) c.reserve.ensures.items c.bytes-bytes.ensures) in
    rw (own, placed c)
    (kept_with_one_more (option_copied c.self.inside.base) c.self.inside.base_offsets.entries
    c.self.inside.own.items c.self.inside.places.entries c.args.name c.args.at c.self.invariant
    (c.requires.at ∙ ap (λ (t : Names). next_offset t) (sym c.self.view_is)) c.requires.room)

pub returns-clause-ok : goal.returns-clause-ok
returns-clause-ok c =
    view_with_one_more c.args.self.now (option_copied c.self.inside.base)
    c.self.inside.places.entries c.insert.new.self.entries c.args.name c.args.at c.self.view_is
    (placed c)
