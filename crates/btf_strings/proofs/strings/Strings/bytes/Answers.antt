use Rattle.std.proofs.Common.{subst}
use Rattle.std.specs.Option.{option_copied}
use Rattle.btf_strings.specs.Names.{Names}
use Rattle.btf_strings.specs.Kept.{IsSound}
use Rattle.btf_strings.proofs.Keeping.{kept_is_sound}
use Rattle.btf_strings.proofs.strings.Strings.bytes.Goals as goal

pub returns-clause-sound : goal.returns-clause-sound
returns-clause-sound c =
    subst (λ (t : Names). IsSound t) c.self.view_is
    (kept_is_sound (option_copied c.self.inside.base) c.self.inside.base_offsets.entries
    c.self.inside.own.items c.self.inside.places.entries c.self.invariant)
