-- What was stored, read as a BTF file over the same base.
use Rattle.std.proofs.Common.{◌≡◌, ◌+◌, ◌<◌, ◌++◌, ℕ, List, [], ◌∷◌, Option, None, Some, Result}
use Rattle.std.proofs.Common.{Ok, Err, true, refl, sym, ap, ◌∙◌, subst, arith, length, take, drop}
use Rattle.std.proofs.Common.{get_or}
use Rattle.std.proofs.Math.Seq.{drop-append_seam, take-append_seam}
use Rattle.std.specs.Option.{option_or}
use Rattle.std.specs.Result.{result_err}
use Rattle.dw_base.specs.declared.numbers.Order.{Order}
use Rattle.dw_base.specs.declared.places.Limits.{Limits}
use Rattle.command_line.specs.declared.job.Format.TheVariants.{Dwarf, Btf}
use Rattle.c_model.specs.declared.graph.CType.{CType}
use Rattle.btf_codec.specs.Gives.{EndsWithNul, base_seen, table_over}
use Rattle.btf_codec.specs.Reading.{Before, Decoded, is_wanted, names_before, table_of}
use Rattle.btf_codec.specs.Reading.{types_before}
use Rattle.btf_codec.specs.Spells.{Spells}
use Rattle.btf_codec.specs.declared.fault.BtfFault.{BtfFault}
use Rattle.btf_codec.specs.declared.fault.BtfFault.TheVariants.{BtfMagic, BtfHeader, BtfTruncated}
use Rattle.btf_codec.specs.declared.fault.BtfFault.TheVariants.{BtfKind, BtfInfo, BtfName, BtfRef}
use Rattle.btf_codec.specs.declared.fault.BtfFault.TheVariants.{BtfStrings, Memory}
use Rattle.btf_codec.proofs.Again.{never_memory, read_anyway, same_order}
use Rattle.btf_codec.proofs.Complete.{complete}
use Rattle.split_base.specs.Merged.{IsMerged}
use Rattle.split_base.specs.Table.{own_types}
use Rattle.base_merge.specs.Merging.{graph_over}
use Rattle.shown_types.specs.Listed.{chosen}
use Rattle.shown_types.specs.Shown.{IsText}
use Rattle.pahole_run.specs.declared.refusal.Refusal.{Refusal}
use Rattle.pahole_run.specs.Files.{Inputs, base_count, base_in, base_read, before_by, order_by}
use Rattle.pahole_run.specs.Files.{order_in, order_read, protos_in, width_by}
use Rattle.pahole_run.specs.Layers.{of_btf, seen_as}
use Rattle.pahole_run.specs.Refusals.{AreNodesUnless, base_check, btf_check, file_checks, first}
use Rattle.pahole_run.specs.Refusals.{first_file, funcs_checks, graph_check, graph_checks}
use Rattle.pahole_run.specs.Refusals.{late_checks, made_origin, mixed_check, nodes_checks}
use Rattle.pahole_run.specs.Refusals.{origin_unless, over_checks, show_checks, source_checks}
use Rattle.pahole_run.specs.Refusals.{table_check, units_check}
use Rattle.pahole_run.specs.Tables.{ComesFrom, Merged, Origin, SpellsTypes, names_of, own_of}
use Rattle.pahole_run.specs.Tables.Origin.{OfBytes}
use Rattle.pahole_run.specs.Tasks.Output.{Shown, Stored}
use Rattle.pahole_run.specs.TwoCommands.{StoredIsReadAgain, StoredIsShownAlike, Stores, as_btf}
use Rattle.pahole_run.proofs.BtfLemmas.{btf_accepted}
use Rattle.pahole_run.proofs.NoTypes.{first_rest}

-- checks that pass together pass in parts
record BothPass (xs ys : List (Option Refusal)) : Type 0 where
  one : first xs ≡ None
  two : first ys ≡ None

both_pass : (xs ys : List (Option Refusal)) → first (xs ++ ys) ≡ None → BothPass xs ys
both_pass [] ys h = record { one = refl; two = h }
both_pass (None ∷ xs) ys h = let p = both_pass xs ys h in record { one = p.one; two = p.two }
both_pass (Some r ∷ xs) ys h = absurd (cc)

second_passes : (a b : Option Refusal) (rest : List (Option Refusal))
    → first (a ∷ b ∷ rest) ≡ None → b ≡ None
second_passes None None rest h = refl
second_passes None (Some r) rest h = absurd (cc)
second_passes (Some r) b rest h = absurd (cc)

-- a check of bytes that passes: they spell a table
spelled : (i : ℕ) (r : Result Decoded BtfFault) → (r ≡ Err Memory → ⊥)
    → seen_as (of_btf i) (result_err r) ≡ None → (t : Decoded) × (r ≡ Ok t)
spelled i (Ok t) other h = (t, refl)
spelled i (Err BtfMagic) other h = absurd (cc)
spelled i (Err BtfHeader) other h = absurd (cc)
spelled i (Err (BtfTruncated at)) other h = absurd (cc)
spelled i (Err (BtfKind at id kind)) other h = absurd (cc)
spelled i (Err (BtfInfo at id)) other h = absurd (cc)
spelled i (Err (BtfName at id offset)) other h = absurd (cc)
spelled i (Err (BtfRef at id target)) other h = absurd (cc)
spelled i (Err (BtfStrings at)) other h = absurd (cc)
spelled i (Err Memory) other h = absurd (other refl)

-- the base of an encoding run, read before a BTF file
record IsBaseAgain (order : Order) (base : Option (List ℕ)) : Type 0 where
  check : (i : ℕ) → base_check None i base ≡ None
  same : base_read None base ≡ base_read (Some order) base
  wanted : is_wanted (order_read None base) order ≡ true
  ends : EndsWithNul (names_before (base_read (Some order) base))

base_again : (order : Order) (i : ℕ) (base : Option (List ℕ))
    → base_check (Some order) i base ≡ None → IsBaseAgain order base
base_again order i None h =
    record {
      check = λ k. refl;
      same = refl;
      wanted = refl;
      ends = λ lt. absurd (omega arith);
    }
base_again order i (Some bytes) h =
    let t = spelled i (table_of None (Some order) bytes) (never_memory None (Some order) bytes) h in
    let r = read_anyway None (Some order) bytes t.0 t.1 in
    let same : table_of None None bytes ≡ table_of None (Some order) bytes = r.any ∙ sym t.1 in
    let wants : order_read None (Some bytes) ≡ Some t.0.order = ap order_by r.any in
    record {
      check = λ k. btf_accepted None None k bytes t.0 r.any;
      same = ap before_by same;
      wanted = subst (λ (o : Option Order). is_wanted o order ≡ true) (sym wants)
          (same_order order t.0.order r.wanted);
      ends = subst (λ (b : Option Before). EndsWithNul (names_before b))
          (sym (ap before_by t.1)) r.ends;
    }

-- the types of a table over a base are the base's and its own
front_and_back : (xs types rest : List CType) → types ≡ xs ++ rest
    → types ≡ xs ++ drop (length xs) types
front_and_back xs types rest e =
    e ∙ ap (λ (ys : List CType). xs ++ ys)
    (sym (ap (drop (length xs)) e ∙ drop-append_seam xs rest))

own_behind : (before : Option Before) (nodes types : List CType)
    → IsMerged (graph_over before nodes) types → types ≡ types_before before ++ own_of before types
own_behind None nodes types m = refl
own_behind (Some b) nodes types m =
    front_and_back b.types types
    (own_types (graph_over (Some b) nodes) m.partition)
    (m.table ∙ ap (λ (xs : List CType). xs ++ own_types (graph_over (Some b) nodes) m.partition)
    (take-append_seam b.types _))

table_passes : (o : Option Refusal) → first (o ∷ []) ≡ None → o ≡ None
table_passes None h = refl
table_passes (Some r) h = absurd (cc)

-- what the checks of an encoding run say, where all pass
record Passed (limits : Limits) (inputs : Inputs) (merged : Merged) : Type 0 where
  source : first (source_checks Dwarf limits inputs merged.nodes) ≡ None
  table : table_check (base_in Dwarf inputs) merged.types ≡ None
  base : IsBaseAgain (order_in inputs.files) inputs.base

passed : (limits : Limits) (inputs : Inputs) (merged : Merged) (out : List ℕ)
    → first (file_checks Dwarf (Stored out) limits inputs merged) ≡ None
    → Passed limits inputs merged
passed limits inputs merged out h =
    let a = both_pass (source_checks Dwarf limits inputs merged.nodes)
    (late_checks Dwarf (Stored out) inputs merged.types) h in
    let b = both_pass (nodes_checks Dwarf limits inputs)
    (over_checks Dwarf limits inputs merged.nodes) a.one in
    let c = both_pass (graph_checks limits inputs)
    (funcs_checks inputs.funcs limits.nodes (base_in Dwarf inputs)
    (protos_in limits inputs.files)) b.one in
    record {
      source = a.one;
      table = table_passes (table_check (base_in Dwarf inputs) merged.types) a.two;
      base =
          base_again (order_in inputs.files) (length inputs.files) inputs.base
          (second_passes (mixed_check inputs.files)
          (base_check (Some (order_in inputs.files)) (length inputs.files) inputs.base)
          (first_file units_check 0 inputs.files ∷ graph_check limits inputs.files ∷ []) c.one);
    }

-- what the BTF file spells, as the types of the run
record IsSpelledAgain (limits : Limits) (inputs : Inputs) (merged : Merged)
    (bytes : List ℕ) : Type 0 where
  whole : merged.types
      ≡ types_before (base_in Dwarf inputs) ++ own_of (base_in Dwarf inputs) merged.types
  spells : SpellsTypes (base_in Btf (as_btf inputs bytes)) (order_read None inputs.base) bytes
      merged.types
  only : (others : List CType)
      → SpellsTypes (base_in Btf (as_btf inputs bytes)) (order_read None inputs.base) bytes others
      → others ≡ merged.types
  check : btf_check (base_in Btf (as_btf inputs bytes)) (order_read None inputs.base) 0 bytes ≡ None

types_in : (r s : Result Decoded BtfFault) (a b : Decoded) → r ≡ Ok a → r ≡ Ok b → a.types ≡ b.types
types_in r s a b e f = let same : a ≡ b = cc in ap (λ (t : Decoded). t.types) same

again_over :
    (before seen : Option Before) (want : Option Order) (order : Order) (bytes : List ℕ)
    (types own : List CType) (names : List ℕ)
    → seen ≡ before → ((i : ℕ) → get_or bytes i 0 < 256) → EndsWithNul (names_before before)
    → is_wanted want order ≡ true → Spells (base_seen before) order own names bytes
    → types ≡ types_before before ++ own
    → SpellsTypes seen want bytes types
    × ((others : List CType) → SpellsTypes seen want bytes others → others ≡ types)
    × (btf_check seen want 0 bytes ≡ None)
again_over before seen want order bytes types own names e h ends wanted s whole =
    let read : table_of before want bytes ≡ Ok (table_over before order own names) =
    complete before want order own names bytes h ends s wanted in
    let one : (others : List CType) → SpellsTypes before want bytes others → others ≡ types =
    λ others o.
    o.whole ∙ types_in (table_of before want bytes) (table_of before want bytes)
    (table_over before o.order o.own o.names) (table_over before order own names)
    (complete before want o.order o.own o.names bytes h ends o.spells o.wanted) read
    ∙ sym whole in
    subst
    (λ (b : Option Before). SpellsTypes b want bytes types
    × ((others : List CType) → SpellsTypes b want bytes others → others ≡ types)
    × (btf_check b want 0 bytes ≡ None)) (sym e) (
      record {
        order = order;
        own = own;
        names = names;
        spells = s;
        wanted = wanted;
        whole = whole;
      },
      one,
      btf_accepted before want 0 bytes (table_over before order own names) read,
    )

spelled_again : (limits : Limits) (inputs : Inputs) (merged : Merged) (bytes : List ℕ)
    → Stores limits inputs merged bytes → IsSpelledAgain limits inputs merged bytes
spelled_again limits inputs merged bytes s =
    let p = passed limits inputs merged s.out s.accepted in
    let before : Option Before = base_in Dwarf inputs in
    let order : Order = order_in inputs.files in
    let m : IsMerged (graph_over before merged.nodes) merged.types =
    subst (λ (o : Origin). ComesFrom o merged.types)
    (ap (λ (r : Option Refusal). origin_unless r Dwarf inputs merged.nodes) p.source) s.has.1 in
    let whole : merged.types ≡ types_before before ++ own_of before merged.types =
    own_behind before merged.nodes merged.types m in
    let stored : Spells (base_seen before) order (own_of before merged.types)
    (names_of before merged.types) bytes =
    subst (λ (b : List ℕ). Spells (base_seen before) order (own_of before merged.types)
    (names_of before merged.types) b) (sym s.output) s.spelled.spells in
    let a = again_over before (base_in Btf (as_btf inputs bytes)) (order_read None inputs.base)
    order bytes merged.types (own_of before merged.types) (names_of before merged.types)
    p.base.same s.narrow p.base.ends p.base.wanted stored whole in
    record { whole = whole; spells = a.0; only = a.1; check = a.2 }

pub stored_again : StoredIsReadAgain
stored_again limits inputs merged bytes s =
    let p = passed limits inputs merged s.out s.accepted in
    let a = spelled_again limits inputs merged bytes s in
    let r : Inputs = as_btf inputs bytes in
    let nodes : first (nodes_checks Btf limits r) ≡ None =
    ap (λ (q : Option Refusal).
    option_or q (option_or (btf_check (base_in Btf r) (order_read None inputs.base) 0 bytes) None))
    (p.base.check 1)
    ∙ ap (λ (q : Option Refusal). option_or q None) a.check in
    let source : (ns : List CType) → first (source_checks Btf limits r ns) ≡ None =
    λ ns. first_rest (nodes_checks Btf limits r) (over_checks Btf limits r ns) nodes in
    let origin : (ns : List CType) → made_origin Btf limits r ns
    ≡ OfBytes (base_in Btf r) (order_read None inputs.base) bytes =
    λ ns. ap (λ (q : Option Refusal). origin_unless q Btf r ns) (source ns) in
    record {
      accepted = source [];
      has = (
        subst (λ (q : Option Refusal). AreNodesUnless q Btf limits r []) (sym nodes) refl,
        subst (λ (o : Origin). ComesFrom o merged.types) (sym (origin [])) a.spells,
      );
      same = λ read h.
          a.only read.types
          (subst (λ (o : Origin). ComesFrom o read.types) (origin read.nodes) h.1);
    }

pub stored_alike : StoredIsShownAlike
stored_alike limits inputs merged read bytes d s h width =
    let p = passed limits inputs merged s.out s.accepted in
    let a = stored_again limits inputs merged bytes s in
    let r : Inputs = as_btf inputs bytes in
    let types : read.types ≡ merged.types = a.same read h in
    let base : base_count (base_in Btf r) ≡ base_count (base_in Dwarf inputs) =
    ap base_count p.base.same in
    let Text : List ℕ → ℕ → ℕ → List CType → Type 0 =
    λ text w k ts. IsText ts w d.style (chosen ts k d.names) text in
    let mine : ℕ = width_by Dwarf inputs.files merged.types in
    let theirs : ℕ = width_by Btf (bytes ∷ []) read.types in
    let late : List (Option Refusal) → ℕ → ℕ → List CType → Option Refusal =
    λ before w k ts. first (before ++ show_checks (Shown d) w k ts) in
    let source : first (source_checks Btf limits r read.nodes) ≡ None =
    first_rest (nodes_checks Btf limits r) (over_checks Btf limits r read.nodes)
    (both_pass (nodes_checks Btf limits r) (over_checks Btf limits r []) a.accepted).one in
    record {
      text = λ text. (
        λ x. subst (λ n. Text text theirs n read.types) (sym base)
            (subst (λ ts. Text text theirs (base_count (base_in Dwarf inputs)) ts) (sym types)
            (subst (λ n. Text text n (base_count (base_in Dwarf inputs)) merged.types) width x)),
        λ x. subst (λ n. Text text n (base_count (base_in Dwarf inputs)) merged.types) (sym width)
            (subst (λ ts. Text text theirs (base_count (base_in Dwarf inputs)) ts) types
            (subst (λ n. Text text theirs n read.types) base x)),
      );
      refusal =
          first_rest (source_checks Dwarf limits inputs merged.nodes)
          (late_checks Dwarf (Shown d) inputs merged.types) p.source
          ∙ ap (λ (q : Option Refusal). option_or q (late [] mine
          (base_count (base_in Dwarf inputs)) merged.types)) p.table
          ∙ ap (λ n. late [] n (base_count (base_in Dwarf inputs)) merged.types) width
          ∙ ap (λ n. late [] theirs n merged.types) (sym base)
          ∙ ap (λ ts. late [] theirs (base_count (base_in Btf r)) ts) (sym types)
          ∙ sym (first_rest (source_checks Btf limits r read.nodes)
          (late_checks Btf (Shown d) r read.types) source);
    }
