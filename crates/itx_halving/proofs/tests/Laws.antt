-- The number of a stage, test by test as the code makes them: tests that follow each other and refuse alike are made as one. Assumes nothing.
use Prim.Native.Nat.{ℕ, ◌<◌, ◌≤◌}
use mathlib.Core.Path.{◌≡◌, refl, ◌∙◌}
use mathlib.Core.Bool.{Bool, true, false, cond, not, ◌&&◌, ◌||◌, true≢false}
use lib.Dec.{ltb, leb}
use borrow.Author.Tests.{lt-ltb, le-ltb, leb-true}
use Rattle.integers.proofs.Bools.{or-neither, either, and_both}
use Rattle.evc.specs.Tests.{outside, samples_of}
use Rattle.evc.specs.Stages.{stage_two_number}
use Rattle.itx_halving.proofs.Taken.{leb-not}

module _ (n m logn logl shift : ℕ) where
  pub stage-size : outside 1 6 logn || ltb 6 logl ≡ true → 1 ≡ stage_two_number n m logn logl shift
  unfolding stage_two_number
  stage-size e = either (outside 1 6 logn) (ltb 6 logl) 1 _ e

  module _ (s : outside 1 6 logn || ltb 6 logl ≡ false) where
    pub stage-shift : 31 < shift → 3 ≡ stage_two_number n m logn logl shift
    unfolding stage_two_number
    stage-shift q = let o = or-neither (outside 1 6 logn) (ltb 6 logl) s in rw (o.0, o.1, lt-ltb 31 shift q)

    -- k is the number of samples as the code has it
    module _ (q : shift ≤ 31) (k : ℕ) (e : k ≡ samples_of logn logl) where
      areas : cond (ltb n k) 5 (cond (ltb m k) 5 0) ≡ stage_two_number n m logn logl shift
      unfolding stage_two_number
      areas = let o = or-neither (outside 1 6 logn) (ltb 6 logl) s in rw (o.0, o.1, le-ltb 31 shift q, ← e)

      pub stage-none : leb k n && leb k m ≡ true → 0 ≡ stage_two_number n m logn logl shift
      stage-none a = let b = and_both (leb k n) (leb k m) a in rw (le-ltb n k (leb-true k n b.0), le-ltb m k (leb-true k m b.1)) at areas

      pub stage-area : leb k n && leb k m ≡ false → 5 ≡ stage_two_number n m logn logl shift
      stage-area a = go (ltb n k) (ltb m k) (rw (leb-not k n, leb-not k m) at a) ∙ areas
        where
          go : (s t : Bool) → not s && not t ≡ false → ◌≡◌ {A = ℕ} 5 (cond s 5 (cond t 5 0))
          go true t f = refl
          go false true f = refl
          go false false f = absurd (true≢false f)

-- what a stage answers where its size or its shift is refused, for the check to find by itself
pub ruleset stage_tests = (stage-size, stage-shift)
