-- `merge_rows::left::meet_left` meets its contract: an empty set comes to nothing, one within the limit is its own path, and a longer one
-- has its first ranks as its path and is asked whole of the candidates.
use Prim.Native.Nat.{◌<◌}
use native.Mathlib.Omega.{arith}
use lib.ListN.{length, length-take}
use Rattle.merge_rows.proofs.SignedLaws.{signs_none}
use Rattle.merge_rows.proofs.LeftSteps.{set_hint, set_lefts, empty_added, short_path, short_alike, short_added}
use Rattle.merge_rows.proofs.LeftSteps.{long_room, long_path, long_alike, long_order, long_small, long_added}
use Rattle.merge_rows.proofs.left.meet_left.Goals as goal
use Rattle.merge_rows.proofs.left.meet_left.Goals.{Else-n-eq0, Else-n-limit}

-- the set has an item, and more of them than the limit
has_some : (c : Else-n-eq0) → 0 < length c.args.set.now
has_some c = omega (arith, c.if-n-eq0.false)

longer : (c : Else-n-limit) → c.args.settings.now.limit < length c.args.set.now
longer c = omega (arith, c.if-n-limit.false)

pub returns-then-n-eq0 : goal.returns-then-n-eq0
returns-then-n-eq0 c =
    record {
      added = empty_added c.requires.there (omega (arith, c.if-n-eq0.true));
      signs = signs_none c.requires.there.over.ground.signed;
    }

pub meet_path-requires : goal.meet_path-requires
meet_path-requires c =
    let some = has_some (goal.at.meet_path-requires c).Else-n-eq0 in
    let few = c.if-n-limit.true in
    record {
      there = short_path c.requires.there some few;
      laid = c.requires.there.over.laid;
      hint = set_hint c.requires.there some;
      lefts = set_lefts c.requires.there;
      alike = short_alike c.requires.there some few;
      positions = c.requires.positions;
    }

pub returns-then-n-limit : goal.returns-then-n-limit
returns-then-n-limit c =
    record {
      added = short_added c.requires.there (has_some (goal.at.returns-then-n-limit c).Else-n-eq0) c.if-n-limit.true c.meet_path.ensures.yielded;
      signs = c.meet_path.ensures.signs;
    }

pub take_path-size-requires : goal.take_path-size-requires
take_path-size-requires c =
    long_room c.requires.there (longer (goal.at.take_path-size-requires c).Else-n-limit)

pub slice_bounds-meet_path-end-3 : goal.slice_bounds-meet_path-end-3
slice_bounds-meet_path-end-3 c =
    omega (arith, c.take_path-size.ensures.within, length-take c.take_path-size.result c.take_path-size.new.path)

pub meet_path-met-requires : goal.meet_path-met-requires
meet_path-met-requires c =
    let many = longer (goal.at.meet_path-met-requires c).Else-n-limit in
    record {
      there = long_path c.requires.there many c.take_path-size.ensures;
      laid = c.requires.there.over.laid;
      hint = set_hint c.requires.there (omega arith);
      lefts = set_lefts c.requires.there;
      alike = long_alike c.requires.there many c.take_path-size.ensures;
      positions = c.requires.positions;
    }

pub confirm-requires : goal.confirm-requires
confirm-requires c =
    let many = longer (goal.at.confirm-requires c).Else-n-limit in
    record {
      order = long_order c.requires.there many c.take_path-size.ensures c.meet_path-met.ensures.yielded;
      small = long_small c.requires.there many c.take_path-size.ensures c.meet_path-met.ensures.yielded;
    }

pub returns : goal.returns
returns c =
    let many = longer (goal.at.returns c).Else-n-limit in
    record {
      added = long_added c.requires.there many c.take_path-size.ensures c.meet_path-met.ensures.yielded c.confirm.ensures;
      signs = c.meet_path-met.ensures.signs;
    }
