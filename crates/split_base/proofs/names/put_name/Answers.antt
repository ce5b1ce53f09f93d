use Rattle.std.proofs.Common.{inr, refl}
use Rattle.split_base.proofs.Naming.{put_one, put_full}
use Rattle.split_base.proofs.names.put_name.Goals as goal

pub returns-in-Ok : goal.returns-in-Ok
returns-in-Ok c = put_one c.args.strings.now c.put.new.self c.args.name c.in-Ok.field-0
    c.in-Ok.ensures.ok c.in-Ok.ensures.offset c.in-Ok.ensures.room

pub returns-in-Err-Full : goal.returns-in-Err-Full
returns-in-Err-Full c =
    let f = rw c.in-Err-Full.field-0-is at c.in-Err-Full.ensures.full in
    let g = f c.in-Err-Full.offset refl in
    inr (put_full c.args.strings.now c.args.name c.in-Err-Full.offset g.0 g.1 g.2)
