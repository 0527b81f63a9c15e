-- Sets that were joined into ends and items are the sets of that collection.
use mathlib.Core.Path.{◌≡◌, refl}
use Prim.Native.Nat.{ℕ, ◌+◌, ◌-◌}
use mathlib.Core.List.{List, [], ◌∷◌, ◌++◌, append_assoc, flatten}
use native.Mathlib.Omega.{arith}
use lib.ListN.{length, length-append}
use lib.Seq.{take_at, drop_at}
use Rattle.sets.specs.Collections.{between, sets_from, sets_of}
use Rattle.tag_file.specs.Loading.{ends_from}

pub between_joined : (before set after : List ℕ) (start : ℕ) → length before ≡ start
    → between start (start + length set) (before ++ (set ++ after)) ≡ set
between_joined before set after start e =
    let n : start + length set - start ≡ length set = omega arith in
    rw (n, drop_at before (set ++ after) start e) (take_at set after (length set) refl)

sets_from_joined : (before : List ℕ) (start : ℕ) (sets : List (List ℕ)) → length before ≡ start
    → sets_from start (ends_from start sets) (before ++ flatten sets) ≡ sets
unfolding sets_from ends_from flatten
sets_from_joined before start [] e = refl
sets_from_joined before start (set ∷ sets) e =
    let next : length (before ++ set) ≡ start + length set = rw (length-append, e) in
    let again : sets_from (start + length set) (ends_from (start + length set) sets) (before ++ (set ++ flatten sets)) ≡ sets =
    rw (append_assoc before set (flatten sets)) at (sets_from_joined (before ++ set) (start + length set) sets next) in
    rw (between_joined before set (flatten sets) start e, again)

pub sets_joined : (sets : List (List ℕ)) → sets_of (ends_from 0 sets) (flatten sets) ≡ sets
sets_joined sets = sets_from_joined [] 0 sets refl
