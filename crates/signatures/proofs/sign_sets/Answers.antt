use native.Mathlib.Omega.{arith}
use Rattle.signatures.proofs.SigningSets.{signing_start, signing_step, signing_end}
use Rattle.signatures.proofs.sign_sets.Goals as goal

pub loop-k-init : goal.loop-k-init
loop-k-init c = signing_start

pub sign_set-mark-requires : goal.sign_set-mark-requires
sign_set-mark-requires c =
    record {
      within = c.requires.room.within c.loop-k.k (omega arith);
      positions = c.requires.positions;
    }

pub store_double-requires : goal.store_double-requires
store_double-requires c =
    let size = c.loop-k.invariant.signed.size in
    omega arith

pub loop-k-preserved : goal.loop-k-preserved
loop-k-preserved c =
    let rest = signing_step c.loop-k.invariant (omega arith) in
    rest c.sign_set-mark.ensures c.store_double.ensures

pub returns : goal.returns
returns c = signing_end c.loop-k.invariant (omega arith)
