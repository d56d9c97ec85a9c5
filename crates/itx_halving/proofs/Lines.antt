-- Laws of a line gathered and of a line stored, step by step. Assumes nothing.
use mathlib.Core.Path.{◌≡◌, refl, sym, ap, ◌∙◌, subst}
use mathlib.Core.List.{List}
use Prim.Native.Nat.{ℕ, suc, ◌+◌, ◌*◌, ◌/◌, ◌%◌, ◌^◌, ◌<◌, ◌≤◌}
use native.Mathlib.Omega.{arith}
use native.Mathlib.Nat.{mul_comm, suc-mul, mul-le-mul_right, add-zero, zero-mul, not-suc-le-zero, mod-eq_of_lt}
use native.Mathlib.Decide.{ℕ_discrete}
use lib.Pow.{pow-add}
use lib.Dec.{T, leb, leb→le}
use lib.ListN.{length, get_or, set, length-set}
use lib.Seq.{get_or-set_same, get_or-set_other}
use lib.IntN.{ℤ, pos, ◌*ℤ◌, nat_abs}
use Rattle.integers.specs.Lists.{written}
use Rattle.integers.proofs.Written.{written_none, written_next, written_count, grid-at}
use Rattle.integers.proofs.Bound.{Within}
use Rattle.integers.proofs.Every.{below, below_at}
use Rattle.integers.specs.Sum.{addition_z+}
use Rattle.integers.proofs.Sum.{sum-ext}
use Rattle.evc.specs.Stages.{product, rounding}
use Rattle.itx_halving.specs.Line.{line, Inputs, Sums}
use Rattle.itx_halving.specs.Lines.{Gathered, Amount, Next, StageRoom, Lined}
use Rattle.itx_halving.proofs.Halving.{whole}

-- place k·l + j of n·l places
pub place : (k l j n H : ℕ) → k < n → j < l → n * l ≤ H → k * l + j < H
place k l j n H hk hj h = omega (arith, suc-mul k l, mul-le-mul_right {m = suc k} {n = n} l hk)

-- ---- a line gathered
pub gathered_none : {x src : List ℤ} {n l j : ℕ} → length x ≡ n → Gathered x src n 0 l j
gathered_none e = record { long = e; at = λ k h. absurd (not-suc-le-zero h); small = λ k h. absurd (not-suc-le-zero h) }

pub gathered-more :
    {x src : List ℤ} {n k l j : ℕ} (v : ℤ) →
    Gathered x src n k l j →
    k < n →
    v ≡ get_or src (k * l + j) (pos 0) →
    nat_abs v ≤ 2147483648 →
    Gathered (set x k v) src n (k + 1) l j
gathered-more {x} {src} {n} {k} {l} {j} v g h e b =
    record {
      long = length-set x k v ∙ g.long;
      at = λ i r. at i r (ℕ_discrete i k);
      small = λ i r. small i r (ℕ_discrete i k);
    }
  where
    here : (i : ℕ) → i ≡ k → get_or (set x k v) i (pos 0) ≡ v
    here i r = ap (λ (y : ℕ). get_or (set x k v) y (pos 0)) r ∙ get_or-set_same x k v (pos 0) (omega (arith, g.long))

    at : (i : ℕ) → i < k + 1 → Dec (i ≡ k) → get_or (set x k v) i (pos 0) ≡ get_or src (i * l + j) (pos 0)
    at i r (yes p) = here i p ∙ e ∙ ap (λ (y : ℕ). get_or src (y * l + j) (pos 0)) (sym p)
    at i r (no f) = get_or-set_other x k i v (pos 0) f ∙ g.at i (omega arith)

    small : (i : ℕ) → i < k + 1 → Dec (i ≡ k) → nat_abs (get_or (set x k v) i (pos 0)) ≤ 2147483648
    small i r (yes p) = subst (λ (y : ℤ). nat_abs y ≤ 2147483648) (sym (here i p)) b
    small i r (no f) = subst (λ (y : ℤ). nat_abs y ≤ 2147483648) (sym (get_or-set_other x k i v (pos 0) f)) (g.small i (omega arith))

pub inputs : {x src : List ℤ} {n l j : ℕ} → Gathered x src n n l j → n ≤ 64 → Inputs x n
inputs g h = record { most = h; input = λ i r. record { room = omega (arith, g.long); small = g.small i r } }

-- ---- a line stored
module _ {d₀ : List ℤ} {a : ℕ} {g : ℕ → ℤ} where
  pub next-none : Next d₀ d₀ a 0 g
  next-none = record { long = refl; after = λ G l r e h. written_count a (a + 0) G l d₀ (sym (add-zero a)) e }

  pub next_more : {d : List ℤ} {k : ℕ} (v : ℤ) → Next d₀ d a k g → v ≡ g k → Next d₀ (set d (a + k) v) a (k + 1) g
  next_more {d} {k} v p e = record {
    long = length-set d (a + k) v ∙ p.long;
    after =
        λ G l r q h.
        written_next (a + k) (a + (k + 1)) G l d v (omega arith) (omega arith) (p.after G l (omega arith) q (λ i s. h i (omega arith))) (e ∙ h k (omega arith));
  }

  pub next-ext : {d : List ℤ} {n : ℕ} {h : ℕ → ℤ} → Next d₀ d a n g → ((k : ℕ) → k < n → g k ≡ h k) → Next d₀ d a n h
  next-ext p e = record { long = p.long; after = λ G l r q s. p.after G l r q (λ k t. e k t ∙ s k t) }

-- ---- what a stage stores, f of each sum: the definition's
module _ (f : ℤ → ℤ) (T : ℕ → ℕ → ℤ) (N l j : ℕ) (src : List ℤ) where
  -- f of what line j gives at place n, by the place of the output
  abbrev pub left : ℕ → ℤ
  left i = f (product T N l src (i / N) (i % N))

  pub stored : {e x : List ℤ} → Gathered x src N N l j → Sums e T 1 N x → (k : ℕ) → k < N → f (get_or e k (pos 0)) ≡ left (j * N + k)
  unfolding product
  stored {e} {x} g s k h =
      ap f (s.at k h ∙ whole T N k (line x) ∙ sum-ext addition_z+ N _ _ (λ i r. ap (λ (z : ℤ). T i k *ℤ z) (g.at i r)))
      ∙ sym (grid-at (λ j k. f (product T N l src j k)) j k N h)

  -- so a line that is gathered, summed and stored is a line of the stage
  pub lined : {d₀ d e x : List ℤ} → Gathered x src N N l j → Sums e T 1 N x → Next d₀ d (j * N) N (λ k. f (get_or e k (pos 0))) → Lined left d₀ d N j
  lined g s n = next-ext n (stored g s)

-- ---- line after line: of l lines of n places j are stored, and the output has room for all
pub record Upto (G : ℕ → ℤ) (n l : ℕ) (d₀ d : List ℤ) (j : ℕ) : Type 0 where
  pub room : n * l ≤ length d₀
  pub most : j ≤ l
  pub long : length d ≡ length d₀
  pub is : d ≡ written (j * n) G d₀

pub upto-none : {G : ℕ → ℤ} {n l : ℕ} {d₀ : List ℤ} → n * l ≤ length d₀ → Upto G n l d₀ d₀ 0
upto-none {G} {n} {l} {d₀} h = record { room = h; most = omega arith; long = refl; is = rw (zero-mul n) (written_none G d₀) }

module _ {G : ℕ → ℤ} {n l : ℕ} {d₀ d : List ℤ} {j : ℕ} (p : Upto G n l d₀ d j) where
  next-room : j < l → j * n + n ≤ length d₀
  next-room h = omega (arith, p.room, suc-mul j n, mul-le-mul_right {m = suc j} {n = l} n h, mul_comm l n)

  pub upto-room : j < l → j * n + n ≤ length d
  upto-room h = omega (arith, next-room h, p.long)

  pub upto-more : {d' : List ℤ} → j < l → Lined G d d' n j → Upto G n l d₀ d' (j + 1)
  upto-more h s =
      let m : (j + 1) * n ≡ j * n + n = omega arith in
      record { room = p.room; most = omega arith; long = s.long ∙ p.long; is = rw m (s.after G d₀ (next-room h) p.is (λ k r. refl)) }

  pub upto_all : l ≤ j → d ≡ written (n * l) G d₀
  upto_all h =
      let e : j ≡ l = omega (arith, p.most) in
      written_count (j * n) (n * l) G d₀ d (ap (λ (i : ℕ). i * n) e ∙ mul_comm l n) p.is

-- a whole stage: 2^b lines of 2^a places, l of them as the code has it
pub rooms : {src dst : List ℤ} (a b l : ℕ) → l ≡ 2 ^ b → 2 ^ (a + b) ≤ length src → 2 ^ (a + b) ≤ length dst → StageRoom src dst (2 ^ a) l
rooms a b l e r s = record { src-room = rw (e, ← pow-add 2 a b) r; dst-room = rw (e, ← pow-add 2 a b) s }

pub stage-end : (F : ℕ → ℕ → ℤ) (d₀ : List ℤ) {d : List ℤ} (a b l : ℕ) → l ≡ 2 ^ b → d ≡ written (2 ^ a * l) (F l) d₀ → d ≡ written (2 ^ (a + b)) (F (2 ^ b)) d₀
stage-end F d₀ a b l e p = rw (pow-add 2 a b, ← e) p

-- a log that is known
pub sized-rooms : {src dst : List ℤ} {l : ℕ} (a k : ℕ) → a ≡ k → StageRoom src dst (2 ^ a) l → StageRoom src dst (2 ^ k) l
sized-rooms {src} {dst} {l} a k e r = subst (λ (g : ℕ). StageRoom src dst (2 ^ g) l) e r

pub sized-end : (F : ℕ → ℕ → ℤ) (d₀ : List ℤ) {d : List ℤ} (l a k : ℕ) → a ≡ k → d ≡ written (2 ^ k * l) (F k) d₀ → d ≡ written (2 ^ a * l) (F a) d₀
sized-end F d₀ {d} l a k e p = subst (λ (g : ℕ). d ≡ written (2 ^ g * l) (F g) d₀) (sym e) p

-- ---- the rounding number of stage two
round-test : T (below (λ s. leb (nat_abs (rounding s)) 2147483648) 32)
round-test = tt

pub rounding-within : (s : ℕ) → s ≤ 31 → Within 2147483648 (rounding s)
rounding-within s h = record { bound = leb→le _ 2147483648 (below_at (λ s. leb (nat_abs (rounding s)) 2147483648) 32 round-test s (omega arith)) }

-- as the code has it, of an allowed shift
pub amount : {add : ℤ} (s : ℕ) → s ≤ 31 → add ≡ rounding (s % 32) → Amount add s
amount s h e = let r : s % 32 ≡ s = mod-eq_of_lt (omega arith) in record { most = h; is = e ∙ ap rounding r }
