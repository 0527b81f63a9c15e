-- What is read off the index: a set's length, its ranks by place, and its ranks from a place on. One text for left and right
-- sets. And that the index stays while only the slots change.
use Prim.Native.Nat.{ℕ, suc, ◌+◌, ◌-◌, ◌≤◌, ◌<◌}
use mathlib.Core.Path.{◌≡◌, sym, ap, ◌∙◌}
use mathlib.Core.List.{List}
use native.Mathlib.Omega.{arith}
use lib.ListN.{length, get_or, take, drop}
use lib.Seq.{length-slice, get_or-drop, get_or-take, drop-drop}
use Rattle.lists.specs.Lists.{slice}
use Rattle.counting_sort.specs.Holding.{RegionHolds}
use Rattle.side_index.specs.keys.SetKeys.{start_of}
use Rattle.join_index.specs.Grouping.{left_at, right_at, key_at}
use Rattle.join_index.specs.declared.Layout.{Layout}
use Rattle.join_index.proofs.GroundLaws.{ground_frame}
use Rattle.join_spec.specs.Query.{Query}
use Rattle.join_index.specs.Asking.{Index, LeftThere, RightThere}
use borrow.Author.Tests.{le-leb, lt-leb}

-- the index stays while only words from the slots on change
pub index_frame : {lay : Layout} {q : Query} {w v : List ℕ} → take lay.slots v ≡ take lay.slots w → length v ≡ length w
    → Index lay q w → Index lay q v
index_frame {lay} {q} {w} {v} frame size index =
    record { ground = ground_frame lay q w v frame size index.ground; room = omega (arith, index.room) }

-- a region that holds a list: how long it is, its elements, and what follows some of them
module _ {w : List ℕ} {top lo hi : ℕ} {l : List ℕ} (h : RegionHolds w top lo hi l) (room : top ≤ length w) where
  pub holds_length : length l ≡ hi - lo
  unfolding slice
  holds_length = ap length (sym h.is) ∙ length-slice lo hi w (omega arith)

  pub holds_at : (d : ℕ) → lo + d < hi → get_or l d 0 ≡ get_or w (lo + d) 0
  unfolding slice
  holds_at d below =
      ap (λ (s : List ℕ). get_or s d 0) (sym h.is) ∙ get_or-drop lo (take hi w) d 0 ∙ get_or-take hi w (lo + d) 0 below

  pub holds_rest : (e : ℕ) → slice (lo + e) hi w ≡ drop e l
  unfolding slice
  holds_rest e = sym (drop-drop e lo (take hi w)) ∙ ap (drop e) h.is

-- a set whose ranks begin at one start and end at the next
pub record RanksStored (w : List ℕ) (starts ranks k : ℕ) (l : List ℕ) : Type 0 where
  pub rise : get_or w (starts + k) 0 ≤ get_or w (starts + k + 1) 0
  pub within : ranks + get_or w (starts + k + 1) 0 ≤ length w
  pub size : length l ≡ get_or w (starts + k + 1) 0 - get_or w (starts + k) 0
  pub rank : (d : ℕ) → d < length l → get_or l d 0 ≡ get_or w (ranks + get_or w (starts + k) 0 + d) 0
  pub rest : (e : ℕ) → slice (ranks + get_or w (starts + k) 0 + e) (ranks + get_or w (starts + k + 1) 0) w ≡ drop e l

stored : (w : List ℕ) (top starts ranks k : ℕ) (l : List ℕ) → top ≤ length w
    → RegionHolds w top (start_of w starts ranks k) (start_of w starts ranks (suc k)) l → RanksStored w starts ranks k l
stored w top starts ranks k l room h =
    let here : starts + k + 1 ≡ starts + suc k = omega arith in
    let next : get_or w (starts + k + 1) 0 ≡ get_or w (starts + suc k) 0 = ap (λ (i : ℕ). get_or w i 0) here in
    let size : length l ≡ get_or w (starts + k + 1) 0 - get_or w (starts + k) 0 = omega (arith, holds_length h room) in
    record {
      rise = omega arith;
      within = omega arith;
      size = size;
      rank = λ d below. holds_at h room d (omega arith);
      rest = λ e. rw next (holds_rest h room e);
    }

pub left_stored : {lay : Layout} {q : Query} {w : List ℕ} {k : ℕ} → LeftThere lay q w k
    → RanksStored w lay.left_starts lay.left_ranks k (left_at q k)
left_stored {lay} {q} {w} {k} there =
    stored w lay.slots lay.left_starts lay.left_ranks k (left_at q k) there.index.room
    (there.index.ground.left k there.below)

pub right_stored : {lay : Layout} {q : Query} {w : List ℕ} {s : ℕ} → RightThere lay q w s
    → RanksStored w lay.right_starts lay.right_ranks s (right_at q s)
right_stored {lay} {q} {w} {s} there =
    stored w lay.slots lay.right_starts lay.right_ranks s (right_at q s) there.index.room
    (there.index.ground.right s there.below)

-- the ranks of a left set lie below the slots
pub left_low : {lay : Layout} {q : Query} {w : List ℕ} {k : ℕ} → LeftThere lay q w k
    → lay.left_ranks + get_or w (lay.left_starts + k + 1) 0 ≤ lay.slots
left_low {lay} {q} {w} {k} there =
    let here : lay.left_starts + k + 1 ≡ lay.left_starts + suc k = omega arith in
    let next : get_or w (lay.left_starts + k + 1) 0 ≡ get_or w (lay.left_starts + suc k) 0 = ap (λ (i : ℕ). get_or w i 0) here in
    omega (arith, (there.index.ground.left k there.below).within)

-- the key at a depth, by the ranks as they are stored
pub key_none : {lay : Layout} {q : Query} {w : List ℕ} {k : ℕ} (d : ℕ) → LeftThere lay q w k
    → get_or w (lay.left_starts + k + 1) 0 - get_or w (lay.left_starts + k) 0 ≤ d → 0 ≡ key_at q d k
unfolding key_at
key_none {q = q} {k = k} d there past =
    let s = left_stored there in rw (le-leb (length (left_at q k)) d (omega arith))

pub key_rank : {lay : Layout} {q : Query} {w : List ℕ} {k : ℕ} (d : ℕ) → LeftThere lay q w k
    → d < get_or w (lay.left_starts + k + 1) 0 - get_or w (lay.left_starts + k) 0
    → get_or w (lay.left_ranks + get_or w (lay.left_starts + k) 0 + d) 0 + 1 ≡ key_at q d k
unfolding key_at
key_rank {q = q} {k = k} d there more =
    let s = left_stored there in
    rw (lt-leb (length (left_at q k)) d (omega arith), s.rank d (omega arith)) (omega arith)
