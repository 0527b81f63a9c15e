-- The line of the counts is its two halves.
use Prim.Native.Nat.{ℕ}
use mathlib.Core.Path.{◌≡◌, ap, ◌∙◌}
use mathlib.Core.List.{List, ◌++◌, append_assoc}
use Rattle.join_spec.specs.declared.Counts.{Counts}
use Rattle.text.specs.Lines.{ascii, labelled, counts_line}
use Rattle.text.specs.counts_line.Room.{pair_counts, check_counts}

three_append : (a b c rest : List ℕ) → (a ++ (b ++ c)) ++ rest ≡ a ++ (b ++ (c ++ rest))
three_append a b c rest = append_assoc a (b ++ c) rest ∙ ap (λ (l : List ℕ). a ++ l) (append_assoc b c rest)

pub counts_halves : (counts : Counts) → pair_counts counts ++ check_counts counts ≡ counts_line counts
unfolding counts_line
counts_halves counts =
    three_append (labelled (ascii "pairs ") counts.pairs) (labelled (ascii " path ") counts.by_path)
    (labelled (ascii " confirmed ") counts.confirmed) (check_counts counts)
