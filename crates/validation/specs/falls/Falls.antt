-- Inner: the falls of a list (the places where a number is not above the one before it), and its parts: their ends, and the falls at
-- the borders between them.
use Rattle.std.specs.Prelude.{ℕ, ◌+◌, ◌-◌, List, [], ◌∷◌, Bool, true, ◌&&◌, leb, ltb, get_or}
use Rattle.lists.specs.Lists.{one}

-- the greatest number of 16 bits, and so the most that is counted
abbrev pub greatest : ℕ
greatest = 65535

-- whether each end follows the one before it by no more than the longest part may hold; the first part begins at start
unfoldable pub good_ends : ℕ → ℕ → List ℕ → Bool
good_ends longest start [] = true
good_ends longest start (end ∷ ends) = (leb start end && leb (end - start) longest) && good_ends longest end ends

-- how many numbers are not above the one before them, with x before the first
unfoldable pub falls_after : ℕ → List ℕ → ℕ
falls_after x [] = 0
falls_after x (y ∷ ys) = one (leb y x) + falls_after y ys

-- how many numbers of a list are not above the one before them; 0 of []
unfoldable pub falls : List ℕ → ℕ
falls [] = 0
falls (x ∷ xs) = falls_after x xs

-- 1 if the list falls from the part that begins at start to the number at its end, which is one of the first n. An empty part has no
-- last number to fall from: if several parts end together, the border is counted with the one that is not empty
unfoldable pub border_fall : ℕ → ℕ → ℕ → List ℕ → ℕ
border_fall n start end list = one (ltb start end && (ltb end n && leb (get_or list end 0) (get_or list (end - 1) 0)))

-- how many of the borders between parts are falls; the first part begins at start
unfoldable pub border_falls : ℕ → ℕ → List ℕ → List ℕ → ℕ
border_falls n start [] list = 0
border_falls n start (end ∷ ends) list = border_fall n start end list + border_falls n end ends list
