-- Laws of `tab`, the list of g 0 .. g (n-1), and of `written`, a list with those in its first n places: what a loop that writes place after
-- place leaves. First tab, then written: its length and entries, then its steps as a loop's proof has them (`cur` is the list that the
-- invariant speaks of). Last two helpers for lists of known length and for grids. Assumes nothing.
use mathlib.Core.Path.{◌≡◌, refl, sym, ap, ◌∙◌}
use mathlib.Core.List.{List, [], ◌∷◌, ◌++◌, map}
use Prim.Native.Nat.{ℕ, zero, suc, ◌+◌, ◌*◌, ◌/◌, ◌%◌, ◌≤◌, ◌<◌}
use native.Mathlib.Nat.{not-suc-le-zero, le_of_suc-le-suc}
use native.Mathlib.Omega.{arith}
use native.Mathlib.Numerals.{add-one}
use lib.Arith.{digits_div, digits_mod}
use lib.ListN.{length, get_or, set, drop}
use lib.Seq.{ext_get_or}
use Rattle.integers.specs.Lists.{tab, written}

module _ {A : Type 0} where
  -- ---- tab
  pub tab-length : (n : ℕ) (g : ℕ → A) → length (tab n g) ≡ n
  unfolding tab
  tab-length zero g = refl
  tab-length (suc n) g = ap suc (tab-length n (λ k. g (suc k)))

  -- an entry, whatever follows
  entry : (n : ℕ) (g : ℕ → A) (r : List A) (j : ℕ) (d : A) → j < n → get_or (tab n g ++ r) j d ≡ g j
  unfolding tab
  entry zero g r j d h = absurd (not-suc-le-zero h)
  entry (suc n) g r zero d h = refl
  entry (suc n) g r (suc j) d h = entry n (λ k. g (suc k)) r j d (le_of_suc-le-suc h)

  pub tab-at : (n : ℕ) (g : ℕ → A) (j : ℕ) (d : A) → j < n → get_or (tab n g) j d ≡ g j
  unfolding tab
  tab-at zero g j d h = absurd (not-suc-le-zero h)
  tab-at (suc n) g zero d h = refl
  tab-at (suc n) g (suc j) d h = tab-at n (λ k. g (suc k)) j d (le_of_suc-le-suc h)

  pub tab-ext : (n : ℕ) (g h : ℕ → A) → ((k : ℕ) → k < n → g k ≡ h k) → tab n g ≡ tab n h
  unfolding tab
  tab-ext zero g h e = refl
  tab-ext (suc n) g h e =
      let a = e zero (omega arith) in
      let b = tab-ext n (λ k. g (suc k)) (λ k. h (suc k)) (λ k p. e (suc k) (omega arith)) in
      cc

  -- a list is what its entries are
  pub is-tab : (n : ℕ) (g : ℕ → A) (l : List A) (d : A) → length l ≡ n → ((k : ℕ) → k < n → get_or l k d ≡ g k) → l ≡ tab n g
  is-tab n g l d e h = ext_get_or d l (tab n g) (e ∙ sym (tab-length n g)) (λ k p. let q = rw e at p in h k q ∙ sym (tab-at n g k d q))

  -- ---- written
  pub written_none : (g : ℕ → A) (l : List A) → l ≡ written 0 g l
  unfolding written tab
  written_none g l = refl

  pub written-length : (n : ℕ) (g : ℕ → A) (l : List A) → n ≤ length l → length (written n g l) ≡ length l
  unfolding written tab
  written-length zero g l h = refl
  written-length (suc n) g [] h = absurd (not-suc-le-zero h)
  written-length (suc n) g (x ∷ xs) h = ap suc (written-length n (λ k. g (suc k)) xs (le_of_suc-le-suc h))

  -- a place that is written
  pub written_at : (n : ℕ) (g : ℕ → A) (l : List A) (j : ℕ) (d : A) → j < n → get_or (written n g l) j d ≡ g j
  unfolding written
  written_at n g l j d h = entry n g (drop n l) j d h

  -- a place past those is as it was
  pub written-past : (n : ℕ) (g : ℕ → A) (l : List A) (j : ℕ) (d : A) → n ≤ length l → n ≤ j → get_or (written n g l) j d ≡ get_or l j d
  unfolding written tab
  written-past zero g l j d h k = refl
  written-past (suc n) g [] j d h k = absurd (not-suc-le-zero h)
  written-past (suc n) g (x ∷ xs) zero d h k = absurd (not-suc-le-zero k)
  written-past (suc n) g (x ∷ xs) (suc j) d h k = written-past n (λ i. g (suc i)) xs j d (le_of_suc-le-suc h) (le_of_suc-le-suc k)

  pub written-ext : (n : ℕ) (g h : ℕ → A) (l : List A) → ((k : ℕ) → k < n → g k ≡ h k) → written n g l ≡ written n h l
  unfolding written
  written-ext n g h l e = ap (λ (r : List A). r ++ drop n l) (tab-ext n g h e)

  -- where all places are written, nothing of the old list is left
  pub written_all : (n : ℕ) (g : ℕ → A) (l : List A) → n ≡ length l → written n g l ≡ tab n g
  unfolding written tab
  written_all zero g [] e = refl
  written_all zero g (x ∷ xs) e = let z : ⊥ = omega arith in absurd z
  written_all (suc n) g [] e = let z : ⊥ = omega arith in absurd z
  written_all (suc n) g (x ∷ xs) e = ap {B = List A} (λ r. g zero ∷ r) (written_all n (λ k. g (suc k)) xs (omega arith))

  -- ---- as a loop's proof has them
  more : (i : ℕ) (g : ℕ → A) (l : List A) → i < length l → set (written i g l) i (g i) ≡ written (suc i) g l
  unfolding written tab
  more i g [] h = absurd (not-suc-le-zero h)
  more zero g (x ∷ xs) h = refl
  more (suc i) g (x ∷ xs) h = ap {B = List A} (λ r. g zero ∷ r) (more i (λ k. g (suc k)) xs (le_of_suc-le-suc h))

  -- one place more
  pub written_step : (i : ℕ) (g : ℕ → A) (l cur : List A) (x : A) → i < length l → cur ≡ written i g l → x ≡ g i → set cur i x ≡ written (i + 1) g l
  written_step i g l cur x h e v = rw (e, v, add-one i) (more i g l h)

  -- what is read past the places written is the old list's
  pub written_read : (i : ℕ) (g : ℕ → A) (l cur : List A) (j : ℕ) (d : A) → i ≤ length l → i ≤ j → cur ≡ written i g l → get_or cur j d ≡ get_or l j d
  written_read i g l cur j d h k e = rw e (written-past i g l j d h k)

  -- one place more, at a place that is computed: k = j · size + n
  pub written_next : (k m : ℕ) (g : ℕ → A) (l cur : List A) (x : A) → m ≡ k + 1 → k < length l → cur ≡ written k g l → x ≡ g k → set cur k x ≡ written m g l
  written_next k m g l cur x e h p v = rw e (written_step k g l cur x h p v)

  -- the same places, counted another way
  pub written_count : (m n : ℕ) (g : ℕ → A) (l cur : List A) → m ≡ n → cur ≡ written m g l → cur ≡ written n g l
  written_count m n g l cur e p = rw (← e) p

-- two lists are equal if their heads and their tails are
infixr 5 ◌∷≡◌
pub ◌∷≡◌ : {A : Type 0} {x y : A} {xs ys : List A} → x ≡ y → xs ≡ ys → ◌≡◌ {A = List A} (x ∷ xs) (y ∷ ys)
p ∷≡ q = λ i. p i ∷ q i

-- a place of a grid, row after row, by its row and its column
pub grid-at : {A : Type 0} (f : ℕ → ℕ → A) (j n size : ℕ) → n < size → f ((j * size + n) / size) ((j * size + n) % size) ≡ f j n
grid-at f j n size h = rw (digits_div j h, digits_mod j h)

-- a loop that replaces each entry x by f x, at its end
pub written-map : {A : Type 0} (f : A → A) (l : List A) (d : A) → written (length l) (λ i. f (get_or l i d)) l ≡ map f l
unfolding written tab
written-map f [] d = refl
written-map {A} f (x ∷ xs) d = ap {B = List A} (λ r. f x ∷ r) (written-map f xs d)
