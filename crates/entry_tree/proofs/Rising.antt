-- The places of the entries of a unit rise.
use Rattle.std.proofs.Common.{ℕ, zero, suc, ◌+◌, ◌-◌, ◌<◌, ◌≤◌, ◌≡◌, List, [], ◌∷◌, length, take}
use Rattle.std.proofs.Common.{Result, Ok, Err, refl, arith}
use Rattle.std.proofs.lemmas.List.{length-take}
use Rattle.std.proofs.lemmas.List.Elements.{All-nil, All-cons, All-weaker}
use Rattle.dwarf_abbrev.specs.Declarations.{Declaration}
use Rattle.dwarf_forms.specs.Values.{Within}
use Rattle.entry_tree.specs.Contexts.{within_of}
use Rattle.entry_tree.specs.Images.{info_of}
use Rattle.entry_tree.specs.Items.{Given, Standing, Coming, item_at, after_item, coming}
use Rattle.entry_tree.specs.Items.{coming_from, given_at, opened}
use Rattle.entry_tree.specs.Items.Standing.{nothing, null, entry}
use Rattle.entry_tree.specs.Rising.{Rises, StandIn, EntriesRise}
use Rattle.entry_tree.specs.declared.fault.WalkFault.{WalkFault}
use Rattle.entry_tree.proofs.Ahead.{Goes, item_goes}

abbrev Lies : ℕ → ℕ → Given → Type 0
Lies from end e = (from ≤ e.at) × (e.at < end)

-- entries rise, and stand from one place on and before another
abbrev pub Placed : ℕ → ℕ → List Given → Type 0
Placed from end es = Rises es × StandIn from end es

pub wider : (from end low high : ℕ) (es : List Given) → low ≤ from → end ≤ high
    → StandIn from end es → StandIn low high es
wider from end low high es a b h = All-weaker (Lies from end) (Lies low high)
    (λ (e : Given) (k : Lies from end e). (omega (arith, a, k.0), omega (arith, b, k.1))) es h

none_placed : (from end : ℕ) → Placed from end []
none_placed from end = (tt, All-nil (Lies from end))

one_placed : (from next end : ℕ) (e : Given) (es : List Given) → e.at ≡ from → from < next
    → from < end → Placed next end es → Placed from end (e ∷ es)
one_placed from next end e es here lt in_unit rest = (
  (
    All-weaker (Lies next end) (λ (later : Given). e.at < later.at)
        (λ (later : Given) (k : Lies next end later). omega (arith, k.0, here, lt)) es rest.1,
    rest.0,
  ),
  All-cons (Lies from end) e es (omega (arith, here), omega (arith, here, in_unit))
      (wider next end from end es (omega (arith, lt)) (omega arith) rest.1),
)

item_placed : (c : Within) (at lists : ℕ) (go : ℕ → ℕ → Coming) (r : Result Standing WalkFault)
    → Goes c at (length c.unit) r → ((end more : ℕ) → Placed end (length c.unit)
    (go end more).entries) → Placed at (length c.unit) (after_item c at lists go r).entries
item_placed c at lists go (Err f) h ih = none_placed at (length c.unit)
item_placed c at lists go (Ok nothing) h ih = none_placed at (length c.unit)
item_placed c at lists go (Ok (null end)) h ih =
    let rest = ih end (lists - 1) in (
      rest.0,
      wider end (length c.unit) at (length c.unit) (go end (lists - 1)).entries
          (omega (arith, h.0)) (omega arith) rest.1,
    )
item_placed c at lists go (Ok (entry d from end)) h ih =
    one_placed at end (length c.unit) (given_at c d from at lists)
    (go end (opened d lists)).entries refl h.0 h.1 (ih end (opened d lists))

pub coming_placed : (c : Within) (declarations : List Declaration) (first n at lists : ℕ)
    → Placed at (length c.unit) (coming c declarations first n at lists).entries
unfolding coming
coming_placed c declarations first zero at lists = none_placed at (length c.unit)
coming_placed c declarations first (suc n) at lists =
    item_placed c at lists (λ (next more : ℕ). coming c declarations first n next more)
    (item_at c declarations first at lists) (item_goes c declarations first at lists)
    (λ (end more : ℕ). coming_placed c declarations first n end more)

pub walk_placed : (c : Within) (declarations : List Declaration) (first end : ℕ)
    → length c.unit ≤ end → Placed first end (coming_from c declarations first first 0).entries
walk_placed c declarations first end le =
    let all = coming_placed c declarations first (length c.unit + 1) first 0 in (
      all.0,
      wider first (length c.unit) first end (coming_from c declarations first first 0).entries
          (omega arith) le all.1,
    )

take_short : (n : ℕ) (xs : List ℕ) → length (take n xs) ≤ n
take_short n xs = omega (arith, length-take n xs)

pub entries_placed : EntriesRise
entries_placed file unit declarations = walk_placed
    (within_of file unit) declarations unit.first unit.end (take_short unit.end (info_of file))
