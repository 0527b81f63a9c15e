use Rattle.kept_rows.proofs.Sharing.{sharing_room, sharing_step}
use Rattle.kept_rows.proofs.share_row.Goals as goal

pub keep_row-requires : goal.keep_row-requires
keep_row-requires c =
    sharing_room c.loop-j.invariant c.requires.holds c.loop-j-test.true c.word_at-k.ensures

pub loop-j-preserved : goal.loop-j-preserved
loop-j-preserved c =
    sharing_step c.loop-j.invariant c.requires c.loop-j-test.true c.word_at-k.ensures
    c.keep_row.ensures
