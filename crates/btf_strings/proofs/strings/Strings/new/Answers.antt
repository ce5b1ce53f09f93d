use Rattle.std.specs.Option.{option_copied}
use Rattle.btf_strings.proofs.Keeping.{kept_at_first}
use Rattle.btf_strings.proofs.strings.Strings.new.Goals as goal

pub invariant_of-result : goal.invariant_of-result
invariant_of-result c =
    kept_at_first (option_copied c.args.base) c.in_ok-offsets_of_base.field-0.entries
    c.in_ok-first_string.field-0.items c.no_offsets.result.entries c.requires c.no_offsets.ensures
    c.in_ok-offsets_of_base.ensures c.in_ok-first_string.ensures
