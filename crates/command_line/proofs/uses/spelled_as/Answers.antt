use Rattle.command_line.specs.declared.options.Setting.TheVariants.{Out}
use Rattle.command_line.specs.Options.{settings}
use Rattle.command_line.specs.Words.{spelled_as}
use Rattle.command_line.proofs.Spelling.{spelled_more}
use Rattle.command_line.proofs.uses.spelled_as.Goals as goal

pub loop-setting-preserved : goal.loop-setting-preserved
loop-setting-preserved c =
    spelled_more settings Out c.loop-setting.setting-index c.args.word.now
    (spelled_as settings c.args.word.now)
    c.loop-setting-test.true c.in_default.ensures c.loop-setting.invariant
