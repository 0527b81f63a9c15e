-- One block of a left set, and one after the other: the candidates that a word tells, those that hold more, and what they come to.
use Prim.Native.Nat.{ℕ, ◌+◌, ◌-◌, ◌*◌, ◌^◌, ◌<◌, ◌≤◌}
use mathlib.Core.Path.{◌≡◌, refl, sym, ap, subst, ◌∙◌}
use mathlib.Core.List.{List, [], ◌∷◌, ◌++◌, append-nil, append_assoc}
use mathlib.Core.Bool.{Bool, true, false, not, ◌&&◌}
use native.Mathlib.Nat.{zero-add, mul-le-mul}
use native.Mathlib.Omega.{arith}
use borrow.Author.Tests.{ltb-true, lt-ltb}
use lib.Bits.{bit_and, bit_xor, and_le_l}
use lib.Count.{count_trailing_zeros}
use lib.Dec.{ltb}
use lib.ListN.{length, length-append}
use Rattle.lists.specs.Lists.{all, count, keep, range, upto}
use Rattle.lists.proofs.Bools.{and_left, and_right}
use Rattle.lists.proofs.Counting.{count_bound}
use Rattle.lists.proofs.Filtering.{length-keep, all_keep, all_kept}
use Rattle.lists.proofs.Throughout.{all_weaken}
use Rattle.sets.specs.Limits.{max_sets, full_words}
use Rattle.sets.specs.Collections.{Collection, sets_in}
use Rattle.sets.specs.Signatures.{signature}
use Rattle.sets.proofs.Between.{length-sets}
use Rattle.sets.proofs.Good.{good_places}
use Rattle.bit_sets.specs.BitSets.{bit_at, digits_from}
use Rattle.bit_sets.proofs.Digits.{bit_of_zero, digits_none, digits_keep}
use Rattle.bit_sets.proofs.Lowest.{bit_xor_lem, digits_lowest}
use Rattle.merge_rows.specs.declared.Met.{Met}
use Rattle.merge_rows.specs.declared.Regions.{Regions}
use Rattle.merge_rows.specs.Words.{ReadRoom}
use Rattle.merge_rows.specs.Filled.{blocks_of}
use Rattle.merge_rows.specs.SignedSets.{SignRoom, Signs, drops_at, PlacesIn}
use Rattle.merge_rows.specs.ShortLists.{pairs_with, Listed, WordPairs}
use Rattle.merge_rows.specs.Yields.{holds_all, is_drop, is_false, yield_among, yield_of, candidates_of, Yielded}
use Rattle.merge_rows.specs.Meeting.{Ground, BlockThere, Blocks, PathThere}
use Rattle.merge_rows.proofs.ShortWriting.{length_pairs, length_digits}
use Rattle.merge_rows.proofs.RowReads.{Shares, cells_room, shared_cells, ground_signs}
use Rattle.merge_rows.proofs.SignedLaws.{signs_none, signs_then}
use Rattle.merge_rows.proofs.YieldLaws.{candidates_in, candidates-blocks, candidates_few, holds_place, bit_all}
use Rattle.merge_rows.proofs.YieldLaws.{word_holds, word_others, word_drops, word_falses, yield_size, yielded_none, yielded_append}

-- the rows of a ground
module _ {r : Regions} {T : ℕ} {sets : Collection} {w : List ℕ} (ground : Ground r T sets w) where
  pub few_rights : length sets.ends ≤ max_sets
  few_rights = good_places T sets.ends sets.items ground.good

  among_rights : {q : ℕ} → q < blocks_of (length sets.ends) → q < blocks_of (length (sets_in sets))
  among_rights {q} block = subst (λ (n : ℕ). q < blocks_of n) (sym (length-sets 0 sets.ends sets.items)) block

  -- where the words of a block begin, and that those of a list are there
  pub row_small : (q : ℕ) → q < blocks_of (length sets.ends) → T * (q + 1) ≤ 4096 * 64
  row_small q block =
      let low : q + 1 ≤ 64 = omega (arith, few_rights) in
      mul-le-mul ground.few low

  pub row_room : (q : ℕ) (list : List ℕ) → q < blocks_of (length sets.ends) → all (λ x. ltb x T) list ≡ true
      → ReadRoom (T * (q + 1)) list w
  row_room q list block below = cells_room ground.rows q list (among_rights block) below

  pub row_holds : (q : ℕ) (list : List ℕ) (word held : ℕ) → q < blocks_of (length sets.ends) → all (λ x. ltb x T) list ≡ true
      → Shares w (T * (q + 1)) list word held
      → (j : ℕ) → j < 64 → bit_at held j ≡ (bit_at word j && holds_all (sets_in sets) list (64 * q + j))
  row_holds q list word held block below = shared_cells ground.rows q list word held (among_rights block) below

-- one block: of its candidates those that hold more are pairs
module _ {r : Regions} {T : ℕ} {sets : Collection} {w : List ℕ} {k q : ℕ} {more : List ℕ} {word : ℕ} {m : Met}
    (there : BlockThere r T sets w k q more word m) where
  pub block_places : WordPairs k (64 * q)
  block_places = record { left = there.left; right = omega (arith, there.block, few_rights there.ground) }

  pub block_signs : SignRoom r.signatures sets w
  block_signs = record { T = T; good = there.ground.good; signed = there.ground.signed }

  module _ (held : ℕ) (shares : Shares w (T * (q + 1)) more word held) where
    holds : (j : ℕ) → j < 64 → bit_at held j ≡ (bit_at word j && holds_all (sets_in sets) more (64 * q + j))
    holds = row_holds there.ground q more word held there.block there.besides shares

    held_digits : digits_from 64 (64 * q) held ≡ keep (holds_all (sets_in sets) more) (digits_from 64 (64 * q) word)
    held_digits = word_holds (sets_in sets) more (64 * q) word held holds

    pub held_small : m.at + 2 * length (digits_from 64 (64 * q) held) < full_words
    held_small =
        omega (
          arith,
          there.room.at,
          ap length held_digits,
          length-keep (holds_all (sets_in sets) more) (digits_from 64 (64 * q) word),
          count_bound (holds_all (sets_in sets) more) (digits_from 64 (64 * q) word),
        )

    -- the pairs that were listed, and checks that are as many as the candidates without them
    block_yield : {m' : Met} {was is : List ℕ} → Listed was m.at (pairs_with k (digits_from 64 (64 * q) held)) m'.at is
        → m'.confirmed ≡ m.confirmed
        → m'.dropped ≡ m.dropped + count (is_drop (sets_in sets) more) (digits_from 64 (64 * q) word)
        → m'.falses ≡ m.falses + count (is_false (sets_in sets) more) (digits_from 64 (64 * q) word)
        → Yielded k (yield_among (sets_in sets) more (digits_from 64 (64 * q) word)) m m' was is
    block_yield {m'} {was} {is} listed confirmed dropped falses =
        record {
          listed = subst (λ (l : List ℕ). Listed was m.at (pairs_with k l) m'.at is) held_digits listed;
          confirmed = confirmed;
          dropped = dropped;
          falses = falses;
        }

    -- where all hold more there is no check in vain
    pub block_whole : held ≡ word → {end : ℕ} {was is : List ℕ} → Listed was m.at (pairs_with k (digits_from 64 (64 * q) held)) end is
        → Yielded k (yield_among (sets_in sets) more (digits_from 64 (64 * q) word)) m
        (record { at = end; confirmed = m.confirmed; dropped = m.dropped; falses = m.falses }) was is
    block_whole same listed =
        let none = word_falses (sets_in sets) more (64 * q) word held holds 0 only in
        let empty = ap length (digits_none 64 (64 * q)) in
        block_yield listed refl (omega arith) (omega arith)
      where
        out : (b : Bool) → false ≡ (b && not b)
        out true = refl
        out false = refl

        only : (j : ℕ) → j < 64 → bit_at 0 j ≡ (bit_at word j && not (bit_at held j))
        only j below = bit_of_zero j ∙ out (bit_at word j) ∙ ap (λ (x : ℕ). bit_at word j && not (bit_at x j)) (sym same)

    -- else the others are dropped or false
    only_others : (j : ℕ) → j < 64 → bit_at (bit_xor word held) j ≡ (bit_at word j && not (bit_at held j))
    only_others j below =
        bit_xor_lem word held j
        (λ is. and_left (bit_at word j) (holds_all (sets_in sets) more (64 * q + j)) (sym (holds j below) ∙ is))

    pub others_places : PlacesIn (length sets.ends) (digits_from 64 (64 * q) (bit_xor word held))
    others_places =
        ap (all (λ s. ltb s (length sets.ends))) (word_others (sets_in sets) more (64 * q) word held holds (bit_xor word held) only_others)
        ∙ all_keep (λ s. ltb s (length sets.ends)) (λ s. not (holds_all (sets_in sets) more s)) (digits_from 64 (64 * q) word) there.places

    module _ {mark dropped : ℕ} (signed : mark ≡ signature more)
        (drops : dropped ≡ count (drops_at mark (sets_in sets)) (digits_from 64 (64 * q) (bit_xor word held))) where
      drops_are : dropped ≡ count (is_drop (sets_in sets) more) (digits_from 64 (64 * q) word)
      drops_are =
          drops
          ∙ ap (λ (n : ℕ). count (drops_at n (sets_in sets)) (digits_from 64 (64 * q) (bit_xor word held))) signed
          ∙ word_drops (sets_in sets) more (64 * q) word held holds (bit_xor word held) only_others

      pub drops_small : m.dropped + dropped < full_words
      drops_small =
          omega (arith, there.room.dropped, drops_are, yield_size (sets_in sets) more (digits_from 64 (64 * q) word))

      module _ {ones : ℕ} (counted : ones ≡ count (bit_at (bit_xor word held)) (upto 64)) where
        ones_are : ones
            ≡ count (is_drop (sets_in sets) more) (digits_from 64 (64 * q) word)
            + count (is_false (sets_in sets) more) (digits_from 64 (64 * q) word)
        ones_are =
            counted
            ∙ sym (length_digits (64 * q) (bit_xor word held))
            ∙ word_falses (sets_in sets) more (64 * q) word held holds (bit_xor word held) only_others

        pub drops_within : dropped ≤ ones
        drops_within = omega (arith, drops_are, ones_are)

        pub falses_small : m.falses + (ones - dropped) < full_words
        falses_small =
            omega (
              arith,
              there.room.falses,
              drops_are,
              ones_are,
              yield_size (sets_in sets) more (digits_from 64 (64 * q) word),
            )

        pub block_checked : {end : ℕ} {was is : List ℕ} → Listed was m.at (pairs_with k (digits_from 64 (64 * q) held)) end is
            → Yielded k (yield_among (sets_in sets) more (digits_from 64 (64 * q) word)) m
            (record { at = end; confirmed = m.confirmed; dropped = m.dropped + dropped; falses = m.falses + (ones - dropped) }) was is
        block_checked listed =
            block_yield listed refl (omega (arith, drops_are)) (omega (arith, drops_are, ones_are))

-- block after block: what the candidates of the blocks behind came to; with those of the blocks left they are all
pub record BlocksMet (r : Regions) (rights : List (List ℕ)) (k : ℕ) (path more : List ℕ) (m : Met) (was wasPairs is pairs : List ℕ)
    (met : Met) (rest : ℕ) : Type 0 where
  pub done : List ℕ
  pub left : done ++ candidates_in rights path (digits_from 64 0 rest) ≡ candidates_of rights path
  pub yielded : Yielded k (yield_among rights more done) m met wasPairs pairs
  pub signs : Signs r.signatures rights was is
  pub within : all (λ q. ltb q (blocks_of (length rights))) (digits_from 64 0 rest) ≡ true
  pub small : rest < 2 ^ 64

pub blocks_same : {r : Regions} {rights : List (List ℕ)} {k : ℕ} {path more : List ℕ} {m : Met}
    {was wasPairs v pairs v' pairs' : List ℕ} {met met' : Met} {rest : ℕ} → v' ≡ v → pairs' ≡ pairs → met' ≡ met
    → BlocksMet r rights k path more m was wasPairs v pairs met rest → BlocksMet r rights k path more m was wasPairs v' pairs' met' rest
blocks_same {r} {rights} {k} {path} {more} {m} {was} {wasPairs} {v} {pairs} {v'} {pairs'} {met} {met'} {rest} work listed counters c =
    record {
      done = c.done;
      left = c.left;
      yielded =
          subst (λ (n : Met). Yielded k (yield_among rights more c.done) m n wasPairs pairs') (sym counters)
          (subst (λ (l : List ℕ). Yielded k (yield_among rights more c.done) m met wasPairs l) (sym listed) c.yielded);
      signs = subst (Signs r.signatures rights was) (sym work) c.signs;
      within = c.within;
      small = c.small;
    }

module _ {r : Regions} {T : ℕ} {sets : Collection} {w : List ℕ} {k : ℕ} {path more : List ℕ} {m : Met} (there : PathThere r T sets w k path more m) where
  pub blocks_start : {blocks : ℕ} (pairs : List ℕ) → Blocks (sets_in sets) path blocks → blocks < 2 ^ 64
      → BlocksMet r (sets_in sets) k path more m w pairs w pairs m blocks
  blocks_start {blocks} pairs named small =
      record {
        done = [];
        left =
            sym (candidates-blocks (sets_in sets) path blocks there.some
            (omega (arith, few_rights there.ground, length-sets 0 sets.ends sets.items)) named);
        yielded = yielded_none (sets_in sets) more k m pairs;
        signs = signs_none there.ground.signed;
        within =
            ap (all (λ q. ltb q (blocks_of (length (sets_in sets)))))
            (digits_keep (bit_at blocks) 64 0 blocks (λ j below. ap (bit_at blocks) (omega arith)))
            ∙ all_weaken (bit_at blocks) (λ q. ltb q (blocks_of (length (sets_in sets)))) (keep (bit_at blocks) (range 0 64))
            (λ q is. lt-ltb q (blocks_of (length (sets_in sets))) (named.within q is)) (all_kept (bit_at blocks) (range 0 64));
        small = small;
      }

  module _ {wasPairs v pairs : List ℕ} {met : Met} {rest : ℕ} (c : BlocksMet r (sets_in sets) k path more m w wasPairs v pairs met rest)
    where
      now_ground : Ground r T sets v
      now_ground = ground_signs there.ground c.signs

      pub blocks_end : rest ≡ 0 → Yielded k (yield_of (sets_in sets) path more) m met wasPairs pairs
      unfolding candidates_in
      blocks_end none =
          subst (λ (l : List ℕ). Yielded k (yield_among (sets_in sets) more l) m met wasPairs pairs)
          (sym (append-nil c.done)
          ∙ ap (λ (l : List ℕ). c.done ++ candidates_in (sets_in sets) path l) (sym (ap (digits_from 64 0) none ∙ digits_none 64 0))
          ∙ c.left) c.yielded

      module _ (some : rest ≡ 0 → ⊥) where
        abbrev first : ℕ
        first = count_trailing_zeros 64 rest

        abbrev later : ℕ
        later = bit_and rest (rest - 1)

        digits : digits_from 64 0 rest ≡ first ∷ digits_from 64 0 later
        digits =
            digits_lowest 64 64 0 rest (omega arith) (omega (arith, some)) c.small
            ∙ ap (λ (q : ℕ). q ∷ digits_from 64 0 later) (zero-add first)

        all_within : (ltb first (blocks_of (length (sets_in sets))) && all (λ q. ltb q (blocks_of (length (sets_in sets)))) (digits_from 64 0 later))
            ≡ true
        unfolding all
        all_within = ap (all (λ q. ltb q (blocks_of (length (sets_in sets))))) (sym digits) ∙ c.within

        pub first_block : first < blocks_of (length sets.ends)
        first_block =
            subst (λ (n : ℕ). first < blocks_of n) (length-sets 0 sets.ends sets.items)
            (ltb-true first (blocks_of (length (sets_in sets)))
            (and_left (ltb first (blocks_of (length (sets_in sets))))
            (all (λ q. ltb q (blocks_of (length (sets_in sets)))) (digits_from 64 0 later)) all_within))

        later_within : all (λ q. ltb q (blocks_of (length (sets_in sets)))) (digits_from 64 0 later) ≡ true
        later_within =
            and_right (ltb first (blocks_of (length (sets_in sets))))
            (all (λ q. ltb q (blocks_of (length (sets_in sets)))) (digits_from 64 0 later)) all_within

        module _ (word : ℕ) (shares : Shares v (T * (first + 1)) path 18446744073709551615 word) where
          candidates : digits_from 64 (64 * first) word ≡ keep (holds_all (sets_in sets) path) (range (64 * first) 64)
          candidates =
              digits_keep (holds_all (sets_in sets) path) 64 (64 * first) word
              (λ j below.
              sym
              (row_holds now_ground first path 18446744073709551615 word first_block there.along shares j below
              ∙ ap (λ (b : Bool). b && holds_all (sets_in sets) path (64 * first + j)) (bit_all j below)))

          split : c.done ++ (digits_from 64 (64 * first) word ++ candidates_in (sets_in sets) path (digits_from 64 0 later))
              ≡ candidates_of (sets_in sets) path
          unfolding candidates_in
          split =
              ap (λ (l : List ℕ). c.done ++ (l ++ candidates_in (sets_in sets) path (digits_from 64 0 later))) candidates
              ∙ ap (λ (l : List ℕ). c.done ++ candidates_in (sets_in sets) path l) (sym digits)
              ∙ c.left

          fits : length c.done + length (digits_from 64 (64 * first) word) ≤ length sets.ends
          fits =
              let rest = candidates_in (sets_in sets) path (digits_from 64 0 later) in
              omega (
                arith,
                ap length split,
                length-append c.done (digits_from 64 (64 * first) word ++ rest),
                length-append (digits_from 64 (64 * first) word) rest,
                candidates_few (sets_in sets) path,
                length-sets 0 sets.ends sets.items,
              )

          pub block_there : BlockThere r T sets v k first more word met
          block_there =
              let size = yield_size (sets_in sets) more c.done in
              let yielded = c.yielded in
              record {
                ground = now_ground;
                left = there.left;
                block = first_block;
                besides = there.besides;
                places =
                    ap (all (λ s. ltb s (length sets.ends))) candidates
                    ∙ all_weaken (holds_all (sets_in sets) path) (λ s. ltb s (length sets.ends))
                    (keep (holds_all (sets_in sets) path) (range (64 * first) 64))
                    (λ s holds.
                    lt-ltb s (length sets.ends)
                    (omega (arith, holds_place (sets_in sets) path there.some s holds, length-sets 0 sets.ends sets.items)))
                    (all_kept (holds_all (sets_in sets) path) (range (64 * first) 64));
                room =
                    record {
                      at =
                          omega (
                            arith,
                            fits,
                            there.room.at,
                            yielded.listed.past,
                            length_pairs k (keep (holds_all (sets_in sets) more) c.done),
                            size,
                          );
                      dropped = omega (arith, fits, there.room.dropped, yielded.dropped, size);
                      falses = omega (arith, fits, there.room.falses, yielded.falses, size);
                    };
              }

          later_small : later < 2 ^ 64
          later_small = omega (arith, and_le_l rest (rest - 1), c.small)

          pub blocks_none : word ≡ 0 → BlocksMet r (sets_in sets) k path more m w wasPairs v pairs met later
          blocks_none none =
              record {
                done = c.done;
                left =
                    ap (λ (l : List ℕ). c.done ++ (l ++ candidates_in (sets_in sets) path (digits_from 64 0 later)))
                    (sym (ap (digits_from 64 (64 * first)) none ∙ digits_none 64 (64 * first)))
                    ∙ split;
                yielded = c.yielded;
                signs = c.signs;
                within = later_within;
                small = later_small;
              }

          pub blocks_step : {v' pairs' : List ℕ} {met' : Met}
              → Yielded k (yield_among (sets_in sets) more (digits_from 64 (64 * first) word)) met met' pairs pairs'
              → Signs r.signatures (sets_in sets) v v'
              → BlocksMet r (sets_in sets) k path more m w wasPairs v' pairs' met' later
          blocks_step yielded signs =
              record {
                done = c.done ++ digits_from 64 (64 * first) word;
                left =
                    append_assoc c.done (digits_from 64 (64 * first) word) (candidates_in (sets_in sets) path (digits_from 64 0 later))
                    ∙ split;
                yielded = yielded_append (sets_in sets) more k c.done (digits_from 64 (64 * first) word) c.yielded yielded;
                signs = signs_then c.signs signs;
                within = later_within;
                small = later_small;
              }
