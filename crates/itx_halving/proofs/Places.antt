-- Laws of runs of the output, one after the other: lines of a block of 16, blocks of a stage. Assumes nothing.
use mathlib.Core.Path.{◌≡◌, refl, sym, ap, ◌∙◌, subst}
use mathlib.Core.List.{List}
use Prim.Native.Nat.{ℕ, suc, ◌+◌, ◌*◌, ◌-◌, ◌/◌, ◌%◌, ◌^◌, ◌<◌, ◌≤◌}
use native.Mathlib.Omega.{arith}
use native.Mathlib.Nat.{suc-mul, zero-mul, mul_comm, add-mul, mul-le-mul_left, mul-le-mul_right, div-add-mod'}
use lib.Dec.{T, eqb, eqb→eq}
use lib.ListN.{length}
use lib.IntN.{ℤ}
use Rattle.integers.specs.Lists.{written}
use Rattle.integers.proofs.Every.{below, below_at}
use Rattle.integers.proofs.Written.{written_none, written_count, grid-at}
use Rattle.itx_halving.specs.Lines.{Next}
use Rattle.itx_halving.specs.Taken.{Call}
use Rattle.itx_halving.proofs.Lines.{next-none}
use Rattle.itx_halving.proofs.Taken.{lines}
use Rattle.itx_halving.specs.Blocks.{BlockRoom, Blocked}

module _ {d₀ : List ℤ} {a : ℕ} {g : ℕ → ℤ} where
  -- as many places, counted otherwise
  pub next-count : {d : List ℤ} (n m : ℕ) → n ≡ m → Next d₀ d a n g → Next d₀ d a m g
  next-count {d} n m e p = subst (λ (n : ℕ). Next d₀ d a n g) e p

  -- a run more
  next-join :
      {d d' : List ℤ} {h : ℕ → ℤ} (n m b c : ℕ) →
      Next d₀ d a n g →
      b ≡ a + n →
      Next d d' b m h →
      ((k : ℕ) → k < m → h k ≡ g (n + k)) →
      c ≡ n + m →
      Next d₀ d' a c g
  next-join {d} {d'} {h} n m b c p e q s t = record {
    long = q.long ∙ p.long;
    after =
        λ G l r u w.
        written_count (b + m) (a + c) G l d' (omega arith)
        (q.after G l (omega arith) (written_count (a + n) b G l d (sym e) (p.after G l (omega arith) u (λ k z. w k (omega arith))))
        (λ k z. s k z ∙ w (n + k) (omega arith) ∙ ap G (here k)));
  }
    where
      here : (k : ℕ) → a + (n + k) ≡ b + k
      here k = omega arith

-- ---- the 16 lines of a block from line j0 on, f of each lane and place: the lines of j lanes are stored, and the output has room for all
pub record Lanes (f : ℕ → ℕ → ℤ) (N j0 : ℕ) (d₀ d : List ℤ) (j : ℕ) : Type 0 where
  pub some : 0 < N
  pub room : j0 * N + 16 * N ≤ length d₀
  pub most : j ≤ 16
  pub stored : Next d₀ d (j0 * N) (j * N) (λ i. f (i / N) (i % N))

pub lanes-none : {f : ℕ → ℕ → ℤ} {N j0 : ℕ} {d₀ : List ℤ} → 0 < N → j0 * N + 16 * N ≤ length d₀ → Lanes f N j0 d₀ d₀ 0
lanes-none {N = N} s r = record { some = s; room = r; most = omega arith; stored = rw (zero-mul N) next-none }

module _ {f : ℕ → ℕ → ℤ} {N j0 : ℕ} {d₀ d : List ℤ} {j : ℕ} (p : Lanes f N j0 d₀ d j) where
  -- the next line lies within the output, and its number is no larger
  pub lanes-room : j < 16 → (j0 + j) * N + N ≤ length d
  lanes-room h = omega (arith, p.room, p.stored.long, suc-mul j N, mul-le-mul_right {m = suc j} {n = 16} N h)

  pub lanes_word : j < 16 → j0 + j < length d
  lanes_word h = omega (arith, p.room, p.stored.long, add-mul j0 16 N, mul-le-mul_left {m = 1} {n = N} (j0 + 16) p.some)

  -- place k of lane j is place j·N + k of the block
  pub lanes-more : {d' : List ℤ} → j < 16 → Next d d' ((j0 + j) * N) N (f j) → Lanes f N j0 d₀ d' (j + 1)
  lanes-more h q =
      record {
        some = p.some;
        room = p.room;
        most = omega arith;
        stored = next-join (j * N) N ((j0 + j) * N) ((j + 1) * N) p.stored (omega arith) q (λ k l. sym (grid-at f j k N l)) (omega arith);
      }

  pub lanes_all : 16 ≤ j → Next d₀ d (j0 * N) (16 * N) (λ i. f (i / N) (i % N))
  lanes_all h = let e : j ≡ 16 = omega (arith, p.most) in next-count (j * N) (16 * N) (ap (λ (x : ℕ). x * N) e) p.stored

-- ---- the block of lines 16·i .. 16·i + 15
pub block-word : (l i : ℕ) → i < l / 16 → i * 16 + 16 ≤ l
block-word l i h = omega (arith, div-add-mod' l 16)

-- of the blocks of l lines of N places i are stored, and the output has room for all
pub record BlocksDone (G : ℕ → ℤ) (N l : ℕ) (d₀ d : List ℤ) (i : ℕ) : Type 0 where
  pub room : N * l ≤ length d₀
  pub whole : l % 16 ≡ 0
  pub most : i ≤ l / 16
  pub stored : Next d₀ d 0 (i * 16 * N) G

pub blocks-none : {G : ℕ → ℤ} {N l : ℕ} {d₀ : List ℤ} → N * l ≤ length d₀ → l % 16 ≡ 0 → BlocksDone G N l d₀ d₀ 0
blocks-none {N = N} r w = record { room = r; whole = w; most = omega arith; stored = rw (zero-mul N) next-none }

module _ {G : ℕ → ℤ} {N l : ℕ} {d₀ d : List ℤ} {i : ℕ} (p : BlocksDone G N l d₀ d i) where
  pub blocks-room : {src : List ℤ} → N * l ≤ length src → i < l / 16 → BlockRoom src d N l (i * 16)
  blocks-room r h = record {
    among = block-word l i h;
    src-room = r;
    dst-room =
        omega (arith, p.stored.long, p.room, mul_comm N l, add-mul (i * 16) 16 N, mul-le-mul_right {m = i * 16 + 16} {n = l} N (block-word l i h));
  }

  pub blocks_more : {d' : List ℤ} → i < l / 16 → Blocked G d d' N (i * 16) → BlocksDone G N l d₀ d' (i + 1)
  blocks_more h q =
      let e : (i + 1) * 16 ≡ i * 16 + 16 = omega arith in
      record {
        room = p.room;
        whole = p.whole;
        most = omega arith;
        stored =
            next-join (i * 16 * N) (16 * N) (i * 16 * N) ((i + 1) * 16 * N) p.stored (omega arith) q (λ k r. refl)
            (ap (λ (x : ℕ). x * N) e ∙ add-mul (i * 16) 16 N);
      }

  pub blocks-all : l / 16 ≤ i → d ≡ written (N * l) G d₀
  blocks-all h =
      let e : i * 16 ≡ l = omega (arith, p.most, p.whole, div-add-mod' l 16) in
      written_count (0 + i * 16 * N) (N * l) G d₀ d (omega (arith, ap (λ (x : ℕ). x * N) e, mul_comm l N))
      (p.stored.after G d₀ (omega (arith, p.room, ap (λ (x : ℕ). x * N) e, mul_comm l N)) (written_none G d₀) (λ k r. ap G (omega arith)))

-- a call of 16 lines or more is a number of whole blocks
sixteens : T (below (λ k. eqb (2 ^ (4 + k) % 16) 0) 3)
sixteens = tt

pub blocks : {lo hi n m a b shift : ℕ} → Call lo hi 4 n m a b shift → (1 * 2 ^ b) % 2 ^ 64 % 16 ≡ 0
blocks {b = b} w =
    let e : 4 + (b - 4) ≡ b = omega (arith, w.line-least) in
    ap (λ (x : ℕ). x % 16) (lines w)
    ∙ subst (λ (x : ℕ). 2 ^ x % 16 ≡ 0) e
    (eqb→eq _ _ (below_at (λ k. eqb (2 ^ (4 + k) % 16) 0) 3 sixteens (b - 4) (omega (arith, w.line-most))))
