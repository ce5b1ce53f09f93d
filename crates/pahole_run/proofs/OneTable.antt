-- The told files of each task come to one table.
use Rattle.std.proofs.Common.{◌≡◌, ◌↔◌, ◌<◌, ◌^◌, ◌++◌, ℕ, Bool, true, false, List, [], ◌∷◌, length}
use Rattle.std.proofs.Common.{Option, None, Some, IfSome, refl, sym, ap, subst, ◌∙◌}
use Rattle.std.proofs.Common.{arith, unwrap_or}
use Rattle.std.proofs.Common.{if◌then◌else◌}
use Rattle.std.specs.Option.{option_map, option_or}
use Rattle.std.specs.Str.{bytes_eq}
use Rattle.std.proofs.lemmas.List.Elements.{All-head, All-tail}
use Rattle.dw_base.specs.declared.places.Limits.{Limits}
use Rattle.world_io.specs.Meaning.{file_of}
use Rattle.world_io.specs.declared.files.HeldFile.{HeldFile}
use Rattle.command_line.specs.declared.job.Format.{Format}
use Rattle.command_line.specs.declared.job.Format.TheVariants.{Dwarf, Btf}
use Rattle.command_line.specs.declared.job.Job.{Job}
use Rattle.command_line.specs.declared.job.Job.TheVariants.{Encode, Show, Selfmade}
use Rattle.btf_codec.specs.Reading.{Before}
use Rattle.btf_codec.proofs.Wording.{AreBytes}
use Rattle.c_model.specs.declared.graph.CType.{CType}
use Rattle.unit_graph.proofs.Formed.{fits}
use Rattle.unit_graph.specs.Sources.{FileUnit}
use Rattle.pahole_run.specs.declared.refusal.Refusal.{Refusal}
use Rattle.pahole_run.specs.Files.{Inputs, alone, base_in, nodes_in, only_file, order_read}
use Rattle.pahole_run.specs.Files.{order_wanted, patched_by, protos_in, units_from}
use Rattle.pahole_run.specs.Laws.{HoldBytes, HoldsBytes, MakesElf}
use Rattle.pahole_run.specs.Promises.{EachFirst, IsFirst}
use Rattle.pahole_run.specs.Refusals.{AreNodes, AreNodesUnless, TheMade, TheTypes}
use Rattle.pahole_run.specs.Refusals.{base_check, btf_check, first, funcs_checks}
use Rattle.pahole_run.specs.Refusals.{given_of, graph_check, graph_checks, input_checks, inputs_of}
use Rattle.pahole_run.specs.Refusals.{contents, given_by, made_origin, nodes_checks, origin_unless}
use Rattle.pahole_run.specs.Refusals.{over_check, over_checks, mixed_check}
use Rattle.pahole_run.specs.Refusals.{first_file, first_refusal, units_check, AreTaskNodes}
use Rattle.pahole_run.specs.Refusals.{HasTypes, origin_of}
use Rattle.pahole_run.specs.Tables.{AreTheOnly, Merged, TheTable, merged_of}
use Rattle.pahole_run.specs.Tasks.{Task, task_of}
use Rattle.pahole_run.proofs.DoneLemmas.{no_nodes, the_again}
use Rattle.pahole_run.proofs.MergeLemmas.{TheNodes, nodes_exist, over_table}
use Rattle.pahole_run.proofs.NoTypes.{first_rest, for_merged, no_table, none_made}
use Rattle.pahole_run.proofs.ProtoLemmas.{AreOfUnits, protos_known, units_accepted}
use Rattle.pahole_run.proofs.ReadLemmas.{IsReadBase, base_is_read, bytes_are, bytes_table}
use Rattle.pahole_run.proofs.TableLemmas.{nodes_made}

-- ---- checks that pass

passes : (c : Option Refusal) (cs : List (Option Refusal)) → first (c ∷ cs) ≡ None
    → (c ≡ None) × (first cs ≡ None)
passes None cs e = (refl, e)
passes (Some r) cs e = absurd (cc)

both_pass : (xs ys : List (Option Refusal)) → first (xs ++ ys) ≡ None
    → (first xs ≡ None) × (first ys ≡ None)
both_pass [] ys e = (refl, e)
both_pass (None ∷ xs) ys e = both_pass xs ys e
both_pass (Some r ∷ xs) ys e = absurd (cc)

-- ---- ELF files

module _ (limits : Limits) (inputs : Inputs) (small : limits.nodes < 2 ^ 32)
    (bytes : IfSome inputs.base AreBytes) (none : first (nodes_checks Dwarf limits inputs) ≡ None)
  where
    abbrev based : Option Before
    based = base_in Dwarf inputs

    abbrev units : List FileUnit
    units = units_from 0 inputs.files

    base : IsReadBase based
    base = base_is_read (order_wanted Dwarf inputs.files) inputs.base bytes

    parts : (first (graph_checks limits inputs) ≡ None)
        × (first (funcs_checks inputs.funcs limits.nodes based (protos_in limits inputs.files))
        ≡ None)
    parts = both_pass (graph_checks limits inputs)
        (funcs_checks inputs.funcs limits.nodes based (protos_in limits inputs.files)) none

    abbrev last : List (Option Refusal)
    last = graph_check limits inputs.files ∷ []

    abbrev headers : Option Refusal
    headers = first_file units_check 0 inputs.files

    graph_passes : graph_check limits inputs.files ≡ None
    graph_passes =
        let of_base = base_check (order_wanted Dwarf inputs.files) (length inputs.files)
        inputs.base in
        let a = passes (mixed_check inputs.files) (of_base ∷ headers ∷ last) parts.0 in
        let b = passes of_base (headers ∷ last) a.1 in
        let c = passes headers last b.1 in
        (passes (graph_check limits inputs.files) [] c.1).0

    files : AreOfUnits limits.nodes units (nodes_in limits inputs.files)
    files = units_accepted limits.nodes units graph_passes

    the_nodes : TheNodes limits.nodes (AreNodes Dwarf limits inputs)
    the_nodes = nodes_exist limits.nodes small inputs.funcs based (nodes_in limits inputs.files)
        (protos_in limits inputs.files) base (record {
          within = files.within;
          fitting = fits (alone (nodes_in limits inputs.files)) files.fine;
          few = files.few;
        }) (protos_known limits.nodes units (nodes_in limits inputs.files) files) parts.1

    origin_is : (nodes : List CType) (o : Option Refusal)
        → over_check limits.nodes based nodes ≡ o
        → made_origin Dwarf limits inputs nodes
        ≡ origin_unless (option_or o None) Dwarf inputs nodes
    origin_is nodes o e =
        ap (λ (q : Option Refusal). origin_unless q Dwarf inputs nodes)
        (first_rest (nodes_checks Dwarf limits inputs) (over_checks Dwarf limits inputs nodes) none
        ∙ ap (λ (q : Option Refusal). option_or q None) e)

    elf_table : (o : Option Refusal) → over_check limits.nodes based the_nodes.nodes ≡ o
        → TheTable (made_origin Dwarf limits inputs the_nodes.nodes)
    elf_table None e =
        subst TheTable (sym (origin_is the_nodes.nodes None e))
        (over_table limits.nodes small based the_nodes.nodes base the_nodes.merge e)
    elf_table (Some r) e =
        subst TheTable (sym (origin_is the_nodes.nodes (Some r) e)) no_table

    elf_made : TheMade Dwarf limits inputs
    elf_made = record {
      nodes = the_nodes.nodes;
      the = nodes_made limits inputs the_nodes.nodes none the_nodes.the;
      table = elf_table (over_check limits.nodes based the_nodes.nodes) refl;
    }

-- ---- a BTF file

module _ (limits : Limits) (inputs : Inputs) (bytes : IfSome inputs.base AreBytes)
    (file : AreBytes (only_file inputs.files))
    (none : first (nodes_checks Btf limits inputs) ≡ None) where
  abbrev last_check : Option Refusal
  last_check =
      btf_check (base_in Btf inputs) (order_read None inputs.base) 0 (only_file inputs.files)

  file_passes : last_check ≡ None
  file_passes =
      let a = passes (base_check (order_wanted Btf inputs.files) (length inputs.files)
      inputs.base) (last_check ∷ []) none in
      (passes last_check [] a.1).0

  btf_made : TheMade Btf limits inputs
  btf_made = record {
    nodes = [];
    the = subst (λ (o : Option Refusal). AreTheOnly (AreNodesUnless o Btf limits inputs) [])
        (sym none) (record { are = refl; only = λ others is. is });
    table = subst TheTable
        (sym (ap (λ (o : Option Refusal). origin_unless o Btf inputs [])
        (first_rest (nodes_checks Btf limits inputs) (over_checks Btf limits inputs []) none)))
        (bytes_table (base_in Btf inputs) (order_read None inputs.base) 0
        (only_file inputs.files) file
        (base_is_read (order_wanted Btf inputs.files) inputs.base bytes).ends file_passes);
  }

-- ---- tasks

module _ (held : List HeldFile) (all : HoldBytes held) where
  no_bytes : AreBytes []
  no_bytes = bytes_are [] (λ k d lt. absurd (omega (arith, lt)))

  file_bytes : (name : List ℕ) (fs : List HeldFile) → HoldBytes fs
      → AreBytes (unwrap_or (file_of name fs) [])
  file_bytes name [] h = no_bytes
  file_bytes name (f ∷ fs) h =
      by (bytes_eq f.name name) (file_bytes name fs (All-tail HoldsBytes f fs h))
    where
      by : (t : Bool) → AreBytes (unwrap_or (file_of name fs) [])
          → AreBytes (unwrap_or (if t then Some f.bytes else file_of name fs) [])
      by true rest = bytes_are f.bytes (All-head HoldsBytes f fs h)
      by false rest = rest

  base_bytes : (o : Option (List ℕ))
      → IfSome (option_map (λ (n : List ℕ). unwrap_or (file_of n held) []) o) AreBytes
  base_bytes None = tt
  base_bytes (Some n) = file_bytes n held all

  first_bytes : (names : List (List ℕ)) → AreBytes (only_file (contents held names))
  first_bytes [] = no_bytes
  first_bytes (n ∷ ns) = file_bytes n held all

made_by : (limits : Limits) (format : Format) (inputs : Inputs) (o : Option Refusal)
    → limits.nodes < 2 ^ 32 → IfSome inputs.base AreBytes
    → (format ≡ Btf → AreBytes (only_file inputs.files))
    → first (nodes_checks format limits inputs) ≡ o → TheMade format limits inputs
made_by limits format inputs (Some r) small bytes file e =
    none_made format limits inputs r e
made_by limits Dwarf inputs None small bytes file e = elf_made limits inputs small bytes e
made_by limits Btf inputs None small bytes file e = btf_made limits inputs bytes (file refl) e

given_bytes : (held : List HeldFile) (task : Task) → HoldBytes held → task.made ≡ None
    → AreBytes (only_file (given_of held task))
given_bytes held task all none =
    subst (λ (o : Option (List ℕ)). AreBytes (only_file (given_by o held task.files))) (sym none)
    (first_bytes held all task.files)

read_bytes : (held : List HeldFile) (task : Task) → HoldBytes held → MakesElf task
    → task.format ≡ Btf → AreBytes (only_file (inputs_of held task).files)
read_bytes held task all elf btf =
    subst (λ (f : Format). AreBytes (only_file (patched_by f (given_of held task)))) (sym btf)
    (given_bytes held task all (elf btf))

task_types : (limits : Limits) (held : List HeldFile) (task : Task) (o : Option Refusal)
    → limits.nodes < 2 ^ 32 → HoldBytes held → MakesElf task
    → first (input_checks limits held task) ≡ o → TheTypes limits held task
task_types limits held task (Some r) small all elf e = no_nodes limits held task r e
task_types limits held task None small all elf e =
    the_again limits held task (inputs_of held task) e refl
    (made_by limits task.format (inputs_of held task)
    (first (nodes_checks task.format limits (inputs_of held task))) small
    (base_bytes held all task.base) (read_bytes held task all elf) refl)

pub one_table : (limits : Limits) (held : List HeldFile) (task : Task) → limits.nodes < 2 ^ 32
    → HoldBytes held → MakesElf task → TheTypes limits held task
one_table limits held task small all elf =
    task_types limits held task (first (input_checks limits held task)) small all elf refl

-- no job makes a BTF file
pub jobs_make_elf : (job : Job) → MakesElf (task_of job)
jobs_make_elf (Encode out base jobs files funcs) is = refl
jobs_make_elf (Show format base names sizes holes line jobs files) is = refl
jobs_make_elf (Selfmade number jobs) is = absurd (cc)

-- ---- the first refusal

-- all that the files of a task come to is that
same_merged : (limits : Limits) (held : List HeldFile) (task : Task)
    (t : TheTypes limits held task) (merged : Merged) → HasTypes limits held task merged
    → first_refusal limits held task merged ≡ first_refusal limits held task (merged_of t)
same_merged limits held task t merged has =
    for_merged (AreTaskNodes limits held task) (origin_of limits held task) t.nodes t.the
    (λ (nodes types : List CType).
    first_refusal limits held task (record { nodes = nodes; types = types })
    ≡ first_refusal limits held task (merged_of t))
    (λ types from. ap (λ (ts : List CType).
    first_refusal limits held task (record { nodes = t.nodes; types = ts }))
    (t.table.only types from)) merged has

pub one_refusal : (limits : Limits) (held : List HeldFile) (task : Task)
    → TheTypes limits held task
    → (first : Option Refusal) × EachFirst limits held task first
    × ((refusal : Refusal) → IsFirst limits held task refusal ↔ (first ≡ Some refusal))
one_refusal limits held task t = (
  first_refusal limits held task (merged_of t),
  same_merged limits held task t,
  λ refusal. (
    λ f. sym (same_merged limits held task t f.merged f.has) ∙ f.first,
    λ e. record { merged = merged_of t; has = (t.the.are, t.table.from); first = e },
  ),
)
