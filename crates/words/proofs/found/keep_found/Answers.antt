use Prim.Native.Nat.{ℕ, ◌-◌, ◌≤◌}
use mathlib.Core.Path.{◌≡◌, refl, sym, ap, ◌∙◌}
use mathlib.Core.Bool.{Bool, true, false}
use native.Mathlib.Omega.{arith}
use lib.ListN.{get_or, take, drop}
use Rattle.std.specs.Int.{from_bool}
use Rattle.lists.specs.Lists.{one, memb, rising, slice}
use Rattle.lists.proofs.Slices.{slice_from, frame-slice}
use Rattle.words.proofs.flags.Keeping.{keeping_start, keeping_step, keeping_end}
use Rattle.words.proofs.found.keep_found.Goals as goal
use Rattle.words.proofs.found.keep_found.Goals.{At-loop-j}

-- the first part as it was
same_part : (l : At-loop-j)
    → take (l.args.b - l.args.a) (drop l.args.a l.loop-j.work) ≡ slice l.args.a l.args.b l.args.work.now
same_part l =
    let a = l.args in
    sym (slice_from a.a a.b l.loop-j.work)
    ∙ frame-slice a.a a.b a.out a.work.now l.loop-j.work l.requires.b_le_out l.loop-j.invariant.changed.low

-- a test as a number
told_one : (b : Bool) → (from_bool b ≡ one b) × (one b ≤ 1)
told_one true = (refl, omega arith)
told_one false = (refl, omega arith)

pub loop-j-init : goal.loop-j-init
loop-j-init c = keeping_start

pub word_at-x-requires : goal.word_at-x-requires
word_at-x-requires c =
    omega (arith, c.loop-j-test.true, c.requires.behind.low, c.requires.behind.room, c.loop-j.invariant.changed.size)

pub is_among-found-requires : goal.is_among-found-requires
is_among-found-requires c = ap rising (same_part (goal.at.is_among-found-requires c).At-loop-j) ∙ c.requires.rising.rise

pub overflow_cast-work : goal.overflow_cast-work
overflow_cast-work c = omega (arith, c.word_at-x.ensures.small)

pub bounds-work-n : goal.bounds-work-n
bounds-work-n c =
    omega (arith, c.loop-j-test.true, c.requires.behind, c.loop-j.invariant)

pub overflow_add-n : goal.overflow_add-n
overflow_add-n c =
    omega (arith, told_one c.is_among-found.result, c.from-n.ensures, c.loop-j.invariant.high, c.requires.behind.room)

pub loop-j-preserved : goal.loop-j-preserved
loop-j-preserved c =
    let a = c.args in
    let word = c.word_at-x.ensures.is in
    let told : c.from-n.result ≡ one (memb (get_or c.loop-j.work c.loop-j.j 0) (slice a.a a.b a.work.now)) =
    c.from-n.ensures ∙ (told_one c.is_among-found.result).0
    ∙ ap one (c.is_among-found.ensures ∙ ap (memb c.word_at-x.result) (same_part (goal.at.loop-j-preserved c).At-loop-j)
    ∙ ap (λ (x : ℕ). memb x (slice a.a a.b a.work.now)) word) in
    rw word (keeping_step c.loop-j.invariant c.requires.behind c.loop-j-test.true told)

pub returns : goal.returns
returns c = keeping_end c.loop-j.invariant c.loop-j-test.false
