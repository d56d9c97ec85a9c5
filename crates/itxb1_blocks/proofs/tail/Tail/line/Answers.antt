-- `itxb1_blocks::tail::Tail::line` meets its contract: place after place, four a turn. Assumes nothing.
use mathlib.Core.List.{List}
use mathlib.Core.Path.{◌≡◌, ◌∙◌}
use Prim.Native.Nat.{ℕ, ◌+◌, ◌*◌}
use native.Mathlib.Omega.{arith}
use lib.ListN.{set, length-set}
use lib.IntN.{ℤ}
use mir.Syntax.{w16}
use Rattle.integers.proofs.Bits.{back}
use Rattle.integers.proofs.Written.{written_next}
use Rattle.itx_halving.specs.Lines.{Next}
use Rattle.itxb1_blocks.proofs.tail.Tail.line.Goals as goal

-- one place more
next-put : {d₀ : List ℤ} {a : ℕ} {g : ℕ → ℤ} {d : List ℤ} (k m : ℕ) (v : ℤ) → Next d₀ d a k g → m ≡ k + 1 → v ≡ g k → Next d₀ (set d (a + k) v) a m g
next-put {a = a} {d = d} k m v p e s = record {
  long = length-set d (a + k) v ∙ p.long;
  after =
      λ G l r t h.
      written_next (a + k) (a + m) G l d v (omega arith) (omega arith) (p.after G l (omega arith) t (λ i u. h i (omega arith))) (s ∙ h k (omega arith));
}

pub loop-r-preserved : goal.loop-r-preserved
loop-r-preserved g c =
    let q = 4 * c.loop-q.q in (
      omega (arith, c.loop-r-test.true),
      λ d p. next-put (q + c.loop-r.r) (q + (c.loop-r.r + 1)) _ (c.loop-r.invariant.1 d p) (omega arith) (back w16 c.at.result c.at.type_inv ∙ c.at.ensures),
    )
