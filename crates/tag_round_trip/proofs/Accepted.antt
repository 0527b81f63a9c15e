-- What an accepted load fills: the filled parts of the lists are what the records give, which for a load are the file's.
use mathlib.Core.Path.{◌≡◌, ap, ◌∙◌}
use Prim.Native.Nat.{ℕ}
use mathlib.Core.List.{List}
use lib.ListN.{length, take, drop}
use lib.Seq.{take_at}
use Rattle.std.specs.Prelude.{Result, Ok}
use Rattle.sets.specs.declared.Side.TheVariants.{Left, Right}
use Rattle.tag_file.specs.declared.Loaded.{Loaded}
use Rattle.tag_file.specs.declared.Repeats.{Repeats}
use Rattle.tag_file.specs.Format.{tag_bytes}
use Rattle.tag_file.specs.Records.{TagRecord, records, tag_table}
use Rattle.tag_file.specs.Loading.{Lists, filled, totals_of, load_answer, lent_after, lists_by, numbers_of}
use Rattle.tag_file.specs.Loading.{ends_of, flat_items}
use Rattle.tag_file.proofs.ItemCount.{length-tag_bytes, length-numbers_of, length-ends_of, length-flat_items}
use Rattle.tag_round_trip.specs.Trips.{parts_of, Fills, loaded_from}
use Rattle.sets.specs.declared.Refusal.{Refusal}

-- seven equal lists
lists_same : {a b c d e f g a' b' c' d' e' f' g' : List ℕ} → a ≡ a' → b ≡ b' → c ≡ c' → d ≡ d' → e ≡ e' → f ≡ f' → g ≡ g'
    → ◌≡◌ {A = Lists}
    (record { tags = a; left_numbers = b; left_ends = c; left_items = d; right_numbers = e; right_ends = f; right_items = g })
    (record { tags = a'; left_numbers = b'; left_ends = c'; left_items = d'; right_numbers = e'; right_ends = f'; right_items = g' })
lists_same p q r s t u v = rw (p, q, r, s, t, u, v)

-- the filled part of a lent list
part_filled : (answer : Result (Loaded × Repeats) Refusal) (counts : Loaded) (repeats : Repeats) (part lent : List ℕ) (n : ℕ)
    → answer ≡ Ok (counts, repeats) → length part ≡ n → take n (lent_after answer part lent) ≡ part
part_filled answer counts repeats part lent n e long =
    ap (λ (a : Result (Loaded × Repeats) Refusal). take n (lent_after a part lent)) e ∙ take_at part (drop (length part) lent) n long

-- the filled parts of the lists are what the records give, after any answer that accepts
parts_by : (rs : List TagRecord) (lent : Lists) (answer : Result (Loaded × Repeats) Refusal) (counts : Loaded) (repeats : Repeats)
    → answer ≡ Ok (counts, repeats) → parts_of (totals_of rs) (lists_by answer (filled rs) lent) ≡ filled rs
parts_by rs lent answer counts repeats e =
    lists_same
    (part_filled _ _ _ (tag_bytes (tag_table rs)) lent.tags _ e (length-tag_bytes (tag_table rs)))
    (part_filled _ _ _ (numbers_of Left rs) lent.left_numbers _ e (length-numbers_of Left rs))
    (part_filled _ _ _ (ends_of Left rs) lent.left_ends _ e (length-ends_of Left rs))
    (part_filled _ _ _ (flat_items Left rs) lent.left_items _ e (length-flat_items Left rs))
    (part_filled _ _ _ (numbers_of Right rs) lent.right_numbers _ e (length-numbers_of Right rs))
    (part_filled _ _ _ (ends_of Right rs) lent.right_ends _ e (length-ends_of Right rs))
    (part_filled _ _ _ (flat_items Right rs) lent.right_items _ e (length-flat_items Right rs))

pub lists_fill : (rs : List TagRecord) (lent got : Lists) (answer : Result (Loaded × Repeats) Refusal) (counts : Loaded) (repeats : Repeats)
    → answer ≡ Ok (counts, repeats) → counts ≡ totals_of rs → got ≡ lists_by answer (filled rs) lent → Fills rs counts got
lists_fill rs lent got answer counts repeats e counted after =
    record {
      counted = counted;
      lists =
          ap (λ (c : Loaded). parts_of c got) counted ∙ ap (parts_of (totals_of rs)) after ∙ parts_by rs lent answer counts repeats e;
    }

-- of a load
pub parts_filled : (file : List ℕ) (lent : Lists) (repeats : Repeats)
    → load_answer file lent ≡ Ok ((totals_of (records file)), repeats)
    → loaded_from file lent (totals_of (records file)) ≡ filled (records file)
parts_filled file lent repeats e = parts_by (records file) lent (load_answer file lent) (totals_of (records file)) repeats e
