use Prim.Native.Nat.{ℕ}
use mathlib.Core.Path.{◌≡◌, subst}
use native.Mathlib.Omega.{arith}
use Rattle.join_index.specs.Ranges.{RangeEnd}
use Rattle.join_index.proofs.Orders.{range_left}
use Rattle.join_check.proofs.keys.RangeEnds.{reaching_start, reaching_stop, reaching_step, reaching_end}
use Rattle.join_check.proofs.keys.range_end.Goals as goal

pub key_at-key-requires : goal.key_at-key-requires
key_at-key-requires c =
    let there = c.requires.holds in
    record { query = c.requires.query; holds = range_left there c.args.i there.some c.word_at-first.ensures }

pub loop-j-init : goal.loop-j-init
loop-j-init c = reaching_start c.requires.holds.some

pub key_at-requires : goal.key_at-requires
key_at-requires c =
    record {
      query = c.requires.query;
      holds = range_left c.requires.holds c.loop-j.j c.loop-j-test.true c.word_at-k.ensures;
    }

pub returns-then-key_at-key : goal.returns-then-key_at-key
returns-then-key_at-key c =
    reaching_stop c.loop-j.invariant c.word_at-first.ensures c.key_at-key.ensures c.loop-j-test.true
    c.word_at-k.ensures c.key_at.ensures c.if-key_at-key.true

pub loop-j-preserved : goal.loop-j-preserved
loop-j-preserved c =
    reaching_step c.loop-j.invariant c.word_at-first.ensures c.key_at-key.ensures c.loop-j-test.true
    c.word_at-k.ensures c.key_at.ensures c.if-key_at-key.false

pub returns : goal.returns
returns c =
    let a = c.args in
    let all : c.loop-j.j ≡ a.hi = omega (arith, c.loop-j.invariant.within) in
    subst (λ (n : ℕ). RangeEnd a.lay a.work.now a.d a.i a.hi n) all
    (reaching_end c.loop-j.invariant c.loop-j-test.false)
