-- A block of samples by what it reads; and an answer whose value is right where no mark reaches the depth's limit. Assumes nothing.
use mathlib.Core.Path.{◌≡◌, refl, ap, ◌∙◌}
use mathlib.Core.Bool.{Bool, true, false}
use mathlib.Core.List.{[], ◌∷◌}
use Prim.Native.Nat.{ℕ, ◌^◌, ◌<◌}
use lib.Bits.{bit_or}
use lib.Dec.{leb}
use lib.IntN.{pos}
use borrow.Author.Tests.{leb-false}
use Rattle.integers.specs.Or.{or_n}
use Rattle.evc.specs.declared.Refusal.TheVariants.{Sample}
use Rattle.evc.specs.Tests.{◌when◌, first, reply}
use Rattle.evc.specs.Planes.{Block, is_too_large}
use Rattle.plane_tests.specs.Blocks.{rest}
use Rattle.plane_tests.proofs.Replies.{marked-rest}

-- C gives what row j, column i reads
abbrev pub samples : ℕ → (ℕ → ℕ → ℕ) → Block
samples depth C = record { area = false; reads = λ j i. pos (C j i); bad = is_too_large depth }

pub marked-value :
    (w h depth : ℕ) (a b : Block) (f g : ℕ → ℕ → ℕ) {any : ℕ} → ((j i : ℕ) → a.bad (a.reads j i) ≡ leb (2 ^ depth) (f j i)) →
    ((j i : ℕ) → b.bad (b.reads j i) ≡ leb (2 ^ depth) (g j i)) → any ≡ or_n h (λ j. or_n w (λ i. bit_or (f j i) (g j i))) → {A : Type 0} (u v : A) →
    (any < 2 ^ depth → u ≡ v) → reply (first ((Sample when leb (2 ^ depth) any) ∷ [])) u ≡ rest w h a b v
marked-value w h depth a b f g {any} p q e {A} u v k = go (leb (2 ^ depth) any) refl ∙ marked-rest w h depth a b f g p q e v
  where
    go : (t : Bool) → leb (2 ^ depth) any ≡ t → reply (first ((Sample when leb (2 ^ depth) any) ∷ [])) u ≡ reply (first ((Sample when leb (2 ^ depth) any) ∷ [])) v
    go true r = rw r
    go false r = ap (reply (first ((Sample when leb (2 ^ depth) any) ∷ []))) (k (leb-false (2 ^ depth) any r))
