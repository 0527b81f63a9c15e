use mathlib.Core.Path.{◌≡◌, refl, ap, ◌∙◌}
use mathlib.Core.Bool.{Bool, true, false}
use Prim.Native.Nat.{ℕ, ◌≤◌}
use native.Mathlib.Omega.{arith}
use lib.ListN.{get_or}
use Rattle.std.specs.Int.{from_bool}
use Rattle.lists.specs.Lists.{one}
use Rattle.join_index.proofs.Places.{place_right, count_past, count_next}
use Rattle.join_check.proofs.keys.count_seen.Invariants.{is_seen}
use Rattle.join_check.proofs.keys.count_seen.Goals as goal

-- a flag as a number
flag : (b : Bool) → (from_bool b ≡ one b) × (one b ≤ 1)
flag true = (refl, omega arith)
flag false = (refl, omega arith)

pub is_seen-requires : goal.is_seen-requires
is_seen-requires c =
    record {
      query = c.requires.query;
      holds = place_right c.requires.holds c.loop-i.i c.word_at-s.result c.loop-i.invariant.low
          c.loop-i-test.true c.word_at-s.ensures;
    }

pub loop-i-preserved : goal.loop-i-preserved
loop-i-preserved c =
    let a = c.args in
    let i = c.loop-i.i in
    record {
      low = omega (arith, c.loop-i.invariant.low);
      few = omega (arith, c.loop-i.invariant.few, flag c.is_seen.result, c.from-n.ensures);
      same = λ q there.
          let s = c.word_at-s.result in
          let is : c.from-n.result ≡ one (is_seen q a.r (get_or a.work.now i 0)) =
          c.from-n.ensures
          ∙ (flag c.is_seen.result).0
          ∙ ap one (c.is_seen.ensures q (place_right there i s c.loop-i.invariant.low
          c.loop-i-test.true c.word_at-s.ensures))
          ∙ ap (λ (k : ℕ). one (is_seen q a.r k)) c.word_at-s.ensures.is
          in
          let next = count_next (is_seen q a.r) a.work.now i a.to c.loop-i-test.true there.within in
          omega (arith, c.loop-i.invariant.same q there);
    }

pub returns : goal.returns
returns c =
    λ q there.
    let a = c.args in
    omega (
      arith,
      count_past (is_seen q a.r) a.work.now c.loop-i.i a.to c.loop-i-test.false,
      c.loop-i.invariant.same q there,
    )
