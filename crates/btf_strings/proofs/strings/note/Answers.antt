use Rattle.std.proofs.Common.{sym}
use Rattle.btf_strings.proofs.Noting.{noted_now}
use Rattle.btf_strings.proofs.strings.note.Goals as goal

pub returns-in_ok-insert-in-None : goal.returns-in_ok-insert-in-None
returns-in_ok-insert-in-None c =
    noted_now c.args.text c.args.at c.args.base_offsets.now.entries c.insert.new.self.entries
    (sym c.in-None.ensures.value) c.in_ok-insert-in-None.ensures.updates.0
