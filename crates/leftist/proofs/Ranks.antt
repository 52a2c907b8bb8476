-- Ranks of leftist heaps.
use Rattle.std.proofs.Common.{◌^◌, ◌≤◌, ap, ◌∙◌, pow-suc, add-one, arith, pow_mono}
use Rattle.cells.specs.Trees.{Tree, leaf, node, size}
use Rattle.leftist.specs.Leftist.{rank, RanksAreLow}

pub ranks_are_low : {A : Type 0} → RanksAreLow A
ranks_are_low leaf h = omega arith
ranks_are_low (node i e l r) h = omega (arith, ap (λ n. 2 ^ n) (add-one (rank r)) ∙ pow-suc 2 (rank r), ranks_are_low l h.1, ranks_are_low r h.2, pow_mono h.0)

pub rank_few : {A : Type 0} (t : Tree A) → rank t ≤ size t
rank_few leaf = omega arith
rank_few (node i e l r) = omega (arith, rank_few r)
