-- `words::shared::intersect` meets its contract: what is found of the second part in the first is what they share, and so is what the
-- flags of the first part keep of the second; the first part lies below what was written, so that its flags are found again and taken
-- away.
use Prim.Native.Nat.{ℕ}
use mathlib.Core.Path.{◌≡◌, sym, ap, ◌∙◌}
use lib.ListN.{length}
use native.Mathlib.Omega.{arith}
use Rattle.lists.specs.Lists.{memb, slice}
use Rattle.lists.proofs.Slices.{slice_from}
use Rattle.words.specs.flags.Flags.{flag_room, Flagged}
use Rattle.words.proofs.flags.Flagging.{below_length, part_below, flagged_own, flagged_same, flags_put, flags_taken}
use Rattle.words.proofs.shared.Sharing.{found_shared, kept_shared, below_changed, flagged_changed}
use Rattle.words.proofs.shared.intersect.Goals as goal
use Rattle.words.proofs.shared.intersect.Goals.{After-set_flags}

pub overflow_sub-e : goal.overflow_sub-e
overflow_sub-e c = omega (arith, c.requires.below_2.order)

pub overflow_sub-b : goal.overflow_sub-b
overflow_sub-b c = omega (arith, c.requires.below.order)

pub keep_found-requires : goal.keep_found-requires
keep_found-requires c =
    record {
      a_le_b = c.requires.below.order;
      rising = c.requires.rising;
      b_le_out = c.requires.apart.first;
      behind = record { low = c.requires.apart.second; room = c.requires.apart.room };
    }

pub returns-then-is_far_shorter : goal.returns-then-is_far_shorter
returns-then-is_far_shorter c =
    record {
      shared = found_shared c.requires.rising c.requires.rising_2 c.keep_found.ensures;
      clear = c.requires.clear_2;
    }

pub set_flags-requires : goal.set_flags-requires
set_flags-requires c = part_below c.args.flags.now c.requires.clear_2.size c.requires.below

-- the table is as long after the flagging, and has the flags of the first part
flags_size : (c : After-set_flags) → length {A = ℕ} c.set_flags.new.flags ≡ flag_room
flags_size c = c.set_flags.auto.flags ∙ c.requires.clear_2.size

flags_are : (c : After-set_flags) → Flagged (λ s. memb s (slice c.args.a c.args.b c.args.work.now)) c.set_flags.new.flags
flags_are c =
    let a = c.args in
    flagged_same (flags_put c.requires.clear_2.none c.set_flags.ensures) (λ s. ap (memb s) (sym (slice_from a.a a.b a.work.now)))

pub keep_flagged-r-requires : goal.keep_flagged-r-requires
keep_flagged-r-requires c =
    record {
      below = below_length c.set_flags.new.flags (flags_size (goal.at.keep_flagged-r-requires c).After-set_flags) c.requires.below_2;
      behind = record { low = c.requires.apart.second; room = c.requires.apart.room };
      flagged = flagged_own (flags_are (goal.at.keep_flagged-r-requires c).After-set_flags);
    }

pub set_flags-requires-2 : goal.set_flags-requires-2
set_flags-requires-2 c =
    part_below c.set_flags.new.flags (flags_size (goal.at.set_flags-requires-2 c).After-set_flags)
    (below_changed c.args.a c.requires.apart.first c.keep_flagged-r.ensures.changed c.requires.below)

pub returns : goal.returns
returns c =
    let l = (goal.at.returns c).After-set_flags in
    let changed = c.keep_flagged-r.ensures.changed in
    record {
      shared = kept_shared c.requires.rising c.requires.rising_2 (below_length c.set_flags.new.flags (flags_size l) c.requires.below_2)
          (flags_are l) c.keep_flagged-r.ensures;
      clear = record {
        size = c.set_flags-2.auto.flags ∙ flags_size l;
        none = flags_taken (flagged_changed c.args.a c.requires.apart.first changed (flags_are l)) c.set_flags-2.ensures;
      };
    }
