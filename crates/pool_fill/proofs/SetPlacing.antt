-- The three lists of a side written set by set, where a set's items may be written in two steps: its whole length is taken at once,
-- and the whole may stand there later. The invariant over plain lists, with its start, its two steps and its end.
use mathlib.Core.Path.{◌≡◌, refl, sym, ap, ap₂, subst, ◌∙◌}
use mathlib.Core.List.{List, [], ◌∷◌, ◌++◌, map-append, append-nil, append_assoc, flatten}
use Prim.Native.Nat.{ℕ, ◌+◌, ◌≤◌}
use native.Mathlib.Omega.{arith}
use lib.ListN.{length, drop, length-append, take-append-drop}
use lib.Seq as seq
use lib.Seq.{length-sets}
use Rattle.lists.specs.Writing.{Put}
use Rattle.lists.proofs.Slices.{rest_more}
use Rattle.lists.proofs.Writing.{Writing, writing_start, writing_room, writing_step, writing_end, written_whole}
use Rattle.sets.specs.Lent.{filled_over}
use Rattle.tag_file.specs.Loading.{ends_from}
use Rattle.tag_loader.specs.declared.record_items.Filled.{Filled}
use Rattle.pool_fill.proofs.Laying.{drop-sets, flatten_append, Block, wholes, parts, size, with_part, Laid, laid_none, laid_put}
use Rattle.pool_fill.proofs.Laying.{laid_grow, laid_whole}

-- of all numbers and sets, those of the blocks are written, and the others are still to come
pub record SetPlacing (all-numbers : List ℕ) (all-sets : List (List ℕ)) (numbers₀ ends₀ items₀ numbers ends items : List ℕ)
    (done : Filled) (blocks : List Block) (left_numbers_lem : List ℕ) (left_sets : List (List ℕ)) : Type 0 where
  pub for_numbers : Writing numbers₀ 0 all-numbers numbers done.sets left_numbers_lem
  pub for_ends : Writing ends₀ 0 (ends_from 0 all-sets) ends done.sets (ends_from done.entries left_sets)
  pub cut : all-sets ≡ wholes blocks ++ left_sets
  pub past : done.entries ≡ size blocks
  pub laid : Laid items 0 blocks
  pub beyond : drop (size blocks) items ≡ drop (size blocks) items₀
  pub same : length items ≡ length items₀
  pub room : length (flatten all-sets) ≤ length items₀

pub placing_start : (all-numbers : List ℕ) (all-sets : List (List ℕ)) (numbers ends items : List ℕ)
    → length all-numbers ≤ length numbers → length (ends_from 0 all-sets) ≤ length ends → length (flatten all-sets) ≤ length items
    → SetPlacing all-numbers all-sets numbers ends items numbers ends items (record { sets = 0; entries = 0 }) [] all-numbers all-sets
unfolding flatten
placing_start all-numbers all-sets numbers ends items for_numbers for_ends for_items =
    record {
      for_numbers = writing_start numbers 0 all-numbers (omega (arith, for_numbers));
      for_ends = writing_start ends 0 (ends_from 0 all-sets) (omega (arith, for_ends));
      cut = refl;
      past = refl;
      laid = laid_none items 0;
      beyond = refl;
      same = refl;
      room = for_items;
    }

size_append : (bs cs : List Block) → size (bs ++ cs) ≡ size bs + size cs
size_append bs cs =
    ap (λ (l : List (List ℕ)). length (flatten l)) (map-append (λ (b : Block). b.whole) bs cs)
    ∙ ap length (flatten_append (wholes bs) (wholes cs)) ∙ length-append (flatten (wholes bs)) (flatten (wholes cs))

size_one : (b : Block) → size (b ∷ []) ≡ length b.whole
unfolding flatten
size_one b = ap length (append-nil b.whole)

module _ {all-numbers : List ℕ} {all-sets : List (List ℕ)} {numbers₀ ends₀ items₀ numbers ends items : List ℕ} {done : Filled}
    {blocks : List Block} {left_numbers_lem : List ℕ} {left_sets : List (List ℕ)}
    (p : SetPlacing all-numbers all-sets numbers₀ ends₀ items₀ numbers ends items done blocks left_numbers_lem left_sets) where
  -- what the next set leaves room for
  pub placing_bound : (w : List ℕ) (later : List (List ℕ)) → left_sets ≡ w ∷ later
      → done.entries + length w ≤ length (flatten all-sets)
  unfolding flatten
  placing_bound w later e =
      omega (
        arith,
        p.past,
        ap (λ (l : List (List ℕ)). length (flatten l)) p.cut,
        ap length (flatten_append (wholes blocks) left_sets),
        length-append (flatten (wholes blocks)) (flatten left_sets),
        ap (λ (l : List (List ℕ)). length (flatten l)) e,
        length-append w (flatten later),
      )

  pub placing_room : (w : List ℕ) (later : List (List ℕ)) → left_sets ≡ w ∷ later → done.entries + length w ≤ length items
  placing_room w later e = omega (arith, placing_bound w later e, p.room, p.same)

  -- the whole of a block lies within
  pub placing_reach : (bs : List Block) (b : Block) (cs : List Block) → blocks ≡ bs ++ (b ∷ cs)
      → size bs + length b.whole ≤ length (flatten all-sets)
  placing_reach bs b cs e =
      omega (
        arith,
        ap size e,
        size_append bs (b ∷ cs),
        size_append (b ∷ []) cs,
        size_one b,
        ap (λ (l : List (List ℕ)). length (flatten l)) p.cut,
        ap length (flatten_append (wholes blocks) left_sets),
        length-append (flatten (wholes blocks)) (flatten left_sets),
      )

  pub placing_number : (n : ℕ) (later : List ℕ) → left_numbers_lem ≡ n ∷ later → done.sets + 1 ≤ length numbers
  placing_number n later e = writing_room p.for_numbers (n ∷ []) later e

  pub placing_end : (w : List ℕ) (later : List (List ℕ)) → left_sets ≡ w ∷ later → done.sets + 1 ≤ length ends
  unfolding ends_from
  placing_end w later e =
      writing_room p.for_ends ((done.entries + length w) ∷ []) (ends_from (done.entries + length w) later)
      (ap (ends_from done.entries) e)

  -- one more set, of which a part is written
  pub placing_next : (n : ℕ) (later_numbers : List ℕ) (b : Block) (later : List (List ℕ)) {r : Filled}
      {numbers' ends' items' : List ℕ} → left_numbers_lem ≡ n ∷ later_numbers → left_sets ≡ b.whole ∷ later
      → length b.part ≤ length b.whole
      → Put numbers done.sets (n ∷ []) r.sets numbers'
      → Put ends done.sets ((done.entries + length b.whole) ∷ []) r.sets ends'
      → items' ≡ seq.sets items done.entries b.part → r.entries ≡ done.entries + length b.whole
      → SetPlacing all-numbers all-sets numbers₀ ends₀ items₀ numbers' ends' items' r (blocks ++ (b ∷ [])) later_numbers later
  unfolding ends_from
  placing_next n later_numbers b later {r} {numbers'} {ends'} {items'} en es fits put_number put_end written next =
      let grown : size (blocks ++ (b ∷ [])) ≡ size blocks + length b.whole =
      size_append blocks (b ∷ []) ∙ ap (λ (k : ℕ). size blocks + k) (size_one b) in
      let fill : items' ≡ seq.sets items (0 + size blocks) b.part =
      written ∙ ap (λ (k : ℕ). seq.sets items k b.part) (omega (arith, p.past)) in
      let within : 0 + size blocks + length b.part ≤ length items = omega (arith, placing_room b.whole later es, p.past) in
      record {
        for_numbers = writing_step p.for_numbers en put_number;
        for_ends =
            writing_step p.for_ends
            (ap (ends_from done.entries) es
            ∙ ap (λ (k : ℕ). (done.entries + length b.whole) ∷ ends_from k later) (sym next))
            put_end;
        cut =
            p.cut ∙ ap (λ (l : List (List ℕ)). wholes blocks ++ l) es
            ∙ sym (append_assoc (wholes blocks) (b.whole ∷ []) later)
            ∙ ap (λ (l : List (List ℕ)). l ++ later) (sym (map-append (λ (c : Block). c.whole) blocks (b ∷ [])));
        past = omega (arith, next, grown, p.past);
        laid =
            subst (λ (l : List ℕ). Laid l 0 (blocks ++ (b ∷ []))) (sym fill) (laid_grow items 0 blocks b p.laid fits within);
        beyond =
            ap (λ (l : List ℕ). drop (size (blocks ++ (b ∷ []))) l) fill
            ∙ drop-sets (size (blocks ++ (b ∷ []))) items (0 + size blocks) b.part (omega (arith, grown))
            ∙ rest_more (size blocks) (size (blocks ++ (b ∷ []))) items₀ items (omega (arith, grown)) p.beyond;
        same = ap length fill ∙ length-sets items (0 + size blocks) b.part ∙ p.same;
        room = p.room;
      }

  -- another part written at the place of a block
  pub placing_again : (bs : List Block) (b : Block) (cs : List Block) (q : List ℕ) {items' : List ℕ} → blocks ≡ bs ++ (b ∷ cs)
      → length q ≤ length b.whole → items' ≡ seq.sets items (size bs) q
      → SetPlacing all-numbers all-sets numbers₀ ends₀ items₀ numbers ends items' done (bs ++ (with_part b q ∷ cs))
      left_numbers_lem left_sets
  placing_again bs b cs q {items'} e fits written =
      let alike : wholes blocks ≡ wholes (bs ++ (with_part b q ∷ cs)) =
      ap wholes e ∙ map-append (λ (c : Block). c.whole) bs (b ∷ cs)
      ∙ sym (map-append (λ (c : Block). c.whole) bs (with_part b q ∷ cs)) in
      let total : size (bs ++ (with_part b q ∷ cs)) ≡ size blocks = ap (λ (l : List (List ℕ)). length (flatten l)) (sym alike) in
      let fill : items' ≡ seq.sets items (0 + size bs) q =
      written ∙ ap (λ (k : ℕ). seq.sets items k q) (omega arith) in
      let reach : size bs + length q ≤ size blocks =
      omega (arith, ap size e, size_append bs (b ∷ cs), size_append (b ∷ []) cs, size_one b) in
      let within : 0 + size bs + length q ≤ length items = omega (arith, placing_reach bs b cs e, p.room, p.same) in
      record {
        for_numbers = p.for_numbers;
        for_ends = p.for_ends;
        cut = p.cut ∙ ap (λ (l : List (List ℕ)). l ++ left_sets) alike;
        past = omega (arith, p.past, total);
        laid =
            subst (λ (l : List ℕ). Laid l 0 (bs ++ (with_part b q ∷ cs))) (sym fill)
            (laid_put items 0 bs b cs q (subst (λ (l : List Block). Laid items 0 l) e p.laid) fits within);
        beyond =
            ap₂ (λ (k : ℕ) (l : List ℕ). drop k l) total fill
            ∙ drop-sets (size blocks) items (0 + size bs) q (omega (arith, reach)) ∙ p.beyond
            ∙ ap (λ (k : ℕ). drop k items₀) (sym total);
        same = ap length fill ∙ length-sets items (0 + size bs) q ∙ p.same;
        room = p.room;
      }

  -- nothing is left, and every part is the whole
  module _ (no_numbers : left_numbers_lem ≡ []) (no_sets : left_sets ≡ []) (full : parts blocks ≡ wholes blocks) where
    pub placed_numbers : numbers ≡ filled_over all-numbers numbers₀
    placed_numbers = written_whole (writing_end p.for_numbers no_numbers) (omega (arith, p.for_numbers.room))

    pub placed_ends : ends ≡ filled_over (ends_from 0 all-sets) ends₀
    unfolding ends_from
    placed_ends =
        written_whole (writing_end p.for_ends (ap (ends_from done.entries) no_sets)) (omega (arith, p.for_ends.room))

    pub placed_items : items ≡ filled_over (flatten all-sets) items₀
    placed_items =
        let alike : all-sets ≡ wholes blocks =
        p.cut ∙ ap (λ (l : List (List ℕ)). wholes blocks ++ l) no_sets ∙ append-nil (wholes blocks) in
        sym (take-append-drop (size blocks) items)
        ∙ ap₂ (λ (a b : List ℕ). a ++ b) (laid_whole items 0 blocks p.laid full) p.beyond
        ∙ ap (λ (l : List (List ℕ)). flatten l ++ drop (length (flatten l)) items₀) (sym alike)
