-- `join_check::probe_left` meets its contract: the ranks of a left set lie between two starts.
use mathlib.Core.Bool.{false}
use native.Mathlib.Omega.{arith}
use Rattle.join_index.proofs.Reading.{left_stored, left_low}
use Rattle.join_check.proofs.Probing.{probe_none, probe_some}
use Rattle.join_check.proofs.probe_left.Goals as goal

pub overflow_add-from : goal.overflow_add-from
overflow_add-from c =
    let s = left_stored c.requires.holds in omega arith

pub overflow_add-to : goal.overflow_add-to
overflow_add-to c =
    let s = left_stored c.requires.holds in omega arith

pub overflow_sub-to : goal.overflow_sub-to
overflow_sub-to c =
    let s = left_stored c.requires.holds in omega arith

pub returns-then-to-from : goal.returns-then-to-from
returns-then-to-from c =
    record {
      within = omega (
        arith,
        left_low c.requires.holds,
        c.word_at-2.ensures.is,
      );
      is = λ q there.
          probe_none c.args.e false c.word_at.ensures c.word_at-2.ensures
          c.double_at-signature.ensures there
          c.if-to-from.true;
    }

pub overflow_sub-to-2 : goal.overflow_sub-to-2
overflow_sub-to-2 c =
    let s = left_stored c.requires.holds in omega arith

pub overflow_add-result : goal.overflow_add-result
overflow_add-result c =
    let s = left_stored c.requires.holds in omega arith

pub returns : goal.returns
returns c =
    record {
      within = omega (
        arith,
        left_low c.requires.holds,
        c.word_at-2.ensures.is,
      );
      is = λ q there.
          probe_some c.args.e c.is_upward-upward.result c.word_at.ensures c.word_at-2.ensures
          c.double_at-signature.ensures there;
    }
