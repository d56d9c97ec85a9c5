-- Laws of the calls that a crate takes: what the guard's code shows test by test; what the code of such a call knows, and shows at its end; what a
-- caller knows where no crate did the call. Assumes nothing.
use mathlib.Core.Path.{◌≡◌, refl, sym}
use mathlib.Core.Bool.{Bool, true, false, not, ◌&&◌, ◌||◌, false≢true}
use mathlib.Core.List.{List}
use Prim.Native.Nat.{ℕ, ◌*◌, ◌^◌, ◌%◌, ◌≤◌, ◌<◌}
use native.Mathlib.Omega.{arith}
use borrow.Author.Tests.{ltb-true, ltb-false, leb-true, eqb-true, le-leb, lt-leb, eq-eqb}
use lib.Dec.{ltb, leb, eqb}
use lib.ListN.{length}
use lib.IntN.{ℤ}
use mir.Syntax.{w64}
use Rattle.integers.specs.Lists.{written}
use Rattle.integers.proofs.Bits.{one_shl}
use Rattle.integers.proofs.Bools.{and_both, not-both}
use Rattle.evc.specs.Table.{tm}
use Rattle.evc.specs.Stages.{stage_one_at, stage_two_at, stage_one_number, stage_two_number, stage_two_tests, stage_one_exit, stage_two_exit}
use Rattle.evc.proofs.Tests.{unbroken, outside-no}
use Rattle.itx_halving.specs.Lines.{StageRoom}
use Rattle.itx_halving.specs.Taken.{takes, Call, takes_one, takes_two, done_one, done_two}
use Rattle.itx_halving.proofs.Lines.{rooms, stage-end}

-- ---- the guard: the limits are tested as one
pub leb-not : (x y : ℕ) → leb x y ≡ not (ltb y x)
leb-not x y = go (ltb y x) refl
  where
    go : (t : Bool) → ltb y x ≡ t → leb x y ≡ not t
    go true e = lt-leb x y (ltb-true y x e)
    go false e = le-leb x y (ltb-false y x e)

module _ (lo hi least a b z : ℕ) where
  pub elsewhere : ltb a lo || ltb hi a || ltb b least ≡ true → false ≡ takes lo hi least a b z
  unfolding takes
  elsewhere e = rw (leb-not lo a, leb-not a hi, leb-not least b) (go (ltb a lo) (ltb hi a) (ltb b least) e)
    where
      go : (s t u : Bool) → s || t || u ≡ true → false ≡ not s && (not t && (not u && eqb z 0))
      go true t u f = refl
      go false true u f = refl
      go false false true f = refl
      go false false false f = absurd (false≢true f)

  pub too_large : lo ≤ a → hi < a → false ≡ takes lo hi least a b z
  unfolding takes
  too_large g h = rw (le-leb lo a g, lt-leb a hi h)

  pub within : lo ≤ a → a ≤ hi → least ≤ b → (r : Bool) → r ≡ eqb z 0 → r ≡ takes lo hi least a b z
  unfolding takes
  within f g h r e = rw (le-leb lo a f, le-leb a hi g, le-leb least b h) e

  -- ---- what a caller knows
  pub takes-accepted : takes lo hi least a b z ≡ true → z ≡ 0
  unfolding takes
  takes-accepted e =
      let p = and_both (leb lo a) _ e in
      let q = and_both (leb a hi) _ p.1 in
      eqb-true z 0 (and_both (leb least b) _ q.1).1

  -- an accepted call in the range is taken, so where it was not done it was not accepted
  pub not_taken : takes lo hi least a b z ≡ false → lo ≤ a → a ≤ hi → least ≤ b → z ≡ 0 → ⊥
  not_taken e f g h q = not-both (sym (within f g h true (sym (eq-eqb z 0 q)))) e

-- ---- what the code of a call that is taken knows
module _ {lo hi least n m a b shift : ℕ} where
  pub call : takes lo hi least a b (stage_two_number n m a b shift) ≡ true → Call lo hi least n m a b shift
  unfolding takes stage_two_number
  call e =
      let p = and_both _ _ e in
      let q = and_both _ _ p.1 in
      let r = and_both _ _ q.1 in
      let u = unbroken (stage_two_tests n m a b shift) (eqb-true _ 0 r.1) in
      record {
        size-least = leb-true lo a p.0;
        size-most = leb-true a hi q.0;
        size-table = (outside-no 1 6 a u.0).1;
        line-least = leb-true least b r.0;
        line-most = ltb-false 6 b u.1.0;
        shift-most = ltb-false 31 shift u.1.1.0;
        src-room = ltb-false _ _ u.1.1.1.0;
        dst-room = ltb-false _ _ u.1.1.1.1.0;
      }

  -- the code's number of lines is the number of lines
  pub lines : Call lo hi least n m a b shift → (1 * 2 ^ b) % 2 ^ 64 ≡ 2 ^ b
  lines w = one_shl w64 b (omega (arith, w.line-most))

pub call-rooms : {lo hi least a b shift : ℕ} {src dst : List ℤ} → Call lo hi least (length src) (length dst) a b shift → StageRoom src dst (2 ^ a) ((1 * 2 ^ b) % 2 ^ 64)
call-rooms {a = a} {b = b} w = rooms a b _ (lines w) w.src-room w.dst-room

-- ---- what it shows at its end. The guard's number is stage two's, whose test of shift 0 always passes
module _ (lo hi least a b : ℕ) (src dst : List ℤ) where
  pub one-did : {d : List ℤ} → takes lo hi least a b (stage_two_number (length src) (length dst) a b 0) ≡ true
      → d ≡ written (2 ^ a * ((1 * 2 ^ b) % 2 ^ 64)) (stage_one_at (tm (2 ^ a)) (2 ^ a) ((1 * 2 ^ b) % 2 ^ 64) src) dst
      → (true ≡ takes_one lo hi least a b src dst) × (d ≡ done_one true a b src dst)
  unfolding stage_one_number stage_two_number stage_one_exit
  one-did g p =
      let w = call {n = length src} {m = length dst} {shift = 0} g in
      (sym g, rw (takes-accepted lo hi least a b _ g) (stage-end (λ l. stage_one_at (tm (2 ^ a)) (2 ^ a) l src) dst a b _ (lines w) p))

  pub one_left : takes lo hi least a b (stage_two_number (length src) (length dst) a b 0) ≡ false → (false ≡ takes_one lo hi least a b src dst) × (dst ≡ done_one false a b src dst)
  unfolding stage_one_number stage_two_number
  one_left g = (sym g, refl)

  pub two-did : {d : List ℤ} (shift : ℕ) → takes lo hi least a b (stage_two_number (length src) (length dst) a b shift) ≡ true
      → d ≡ written (2 ^ a * ((1 * 2 ^ b) % 2 ^ 64)) (stage_two_at (tm (2 ^ a)) (2 ^ a) ((1 * 2 ^ b) % 2 ^ 64) shift src) dst
      → (true ≡ takes_two lo hi least a b shift src dst) × (d ≡ done_two true a b shift src dst)
  unfolding stage_two_exit
  two-did shift g p =
      let w = call {n = length src} {m = length dst} g in
      (sym g, rw (takes-accepted lo hi least a b _ g) (stage-end (λ l. stage_two_at (tm (2 ^ a)) (2 ^ a) l shift src) dst a b _ (lines w) p))

  pub two-left : (shift : ℕ) → takes lo hi least a b (stage_two_number (length src) (length dst) a b shift) ≡ false
      → (false ≡ takes_two lo hi least a b shift src dst) × (dst ≡ done_two false a b shift src dst)
  two-left shift g = (sym g, refl)
