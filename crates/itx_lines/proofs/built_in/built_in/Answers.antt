-- `itx_lines::built_in::built_in` meets its contract, size by size: document 01's table is an instance. Assumes nothing.
use mathlib.Core.Path.{◌≡◌, refl, sym, ◌∙◌, subst}
use mathlib.Core.List.{List}
use Prim.Native.Nat.{ℕ}
use native.Mathlib.Omega.{arith}
use lib.IntN.{ℤ}
use lib.ListN.{length}
use Rattle.std.proofs.Common.{rules}
use Rattle.evc.specs.Table.{tm}
use Rattle.itx_halving.specs.Line.{rows, Inputs, Sums}
use Rattle.itx_halving.proofs.Step.{none, all, level-at}
use Rattle.itx_halving.proofs.Instance.{built-in-table, built-in-sums}
use Rattle.itx_lines.proofs.Sizes.{sixty_four}
use Rattle.itx_lines.proofs.built_in.built_in.Goals.{In_default}
use Rattle.itx_lines.proofs.built_in.built_in.Goals as goal

-- a line of a size that is known, and its sums
held : {x : List ℤ} (e : List ℤ) (n k : ℕ) → n ≡ k → Inputs x n → length e ≡ n → Inputs x k × (length e ≡ k)
held {x} e n k p h r = (subst (Inputs x) p h, r ∙ p)

summed : {x e : List ℤ} (n k : ℕ) → n ≡ k → Sums e (tm k) 1 k x → Sums e (tm n) 1 n x
summed {x} {e} n k p s = subst (λ (n : ℕ). Sums e (tm n) 1 n x) (sym p) s

-- the same sums, by an equal table
same : {e x t u : List ℤ} → u ≡ t → Sums e (rows u 64) 2 32 x → Sums e (rows t 64) 2 32 x
same {e} {x} p s = subst (λ (l : List ℤ). Sums e (rows l 64) 2 32 x) p s

pub line16-requires : goal.line16-requires
line16-requires g c =
    let h = held c.args.e.now g.row.N 16 c.in-16.is c.requires.1 c.told-e in
    ((built-in-table 4 (omega arith) _ c.table-u.ensures, h.0), h.1)

pub line32-requires : goal.line32-requires
line32-requires g c =
    let h = held c.args.e.now g.row.N 32 c.in-32.is c.requires.1 c.told-e in
    ((built-in-table 5 (omega arith) _ c.table-u.ensures, h.0), h.1)

pub half64-requires : goal.half64-requires
half64-requires g c =
    let s : g.row.N ≡ 64 = sixty_four g.row.N c.requires.0.0 (search rules) (search rules) in
    let h = held c.args.e.now g.row.N 64 s c.requires.1 c.told-e in
    ((built-in-table 6 (omega arith) _ c.table-u.ensures, h.0), h.1)

pub steps-requires : goal.steps-requires
steps-requires g c =
    let s : g.row.N ≡ 64 = sixty_four g.row.N c.requires.0.0 (search rules) (search rules) in
    let x : Inputs c.args.x.now 64 = subst (Inputs c.args.x.now) s c.requires.1 in (
      record {
        level = level-at (built-in-table 6 (omega arith) c.args.t.now c.requires.0.1) x 32 1 refl (omega arith) (omega arith);
        part = none (same (c.table-u.ensures ∙ sym c.requires.0.1) c.half64.ensures);
      },
      (omega arith, omega arith),
    )

pub returns-in-16 : goal.returns-in-16
returns-in-16 g c = summed g.row.N 16 c.in-16.is (built-in-sums 4 (omega arith) _ c.table-u.ensures c.line16.ensures)

pub returns-in-32 : goal.returns-in-32
returns-in-32 g c = summed g.row.N 32 c.in-32.is (built-in-sums 5 (omega arith) _ c.table-u.ensures c.line32.ensures)

pub returns-in_default : goal.returns-in_default
returns-in_default g c =
    let s : g.row.N ≡ 64 = sixty_four g.row.N c.requires.0.0 (search rules) (search rules) in
    summed g.row.N 64 s (built-in-sums 6 (omega arith) _ c.requires.0.1 (all c.steps.ensures.part))
