-- Laws of the sub-block call: its answer component by component; what an accepted call knows; that its flagged components' jobs are each
-- accepted and share no sample, so that the third demand holds of them. Assumes nothing.
use Prim.Native.Nat.{ℕ, zero, suc, ◌≤◌}
use native.Mathlib.Omega.{arith}
use mathlib.Core.Path.{◌≡◌, refl, sym, ap, subst, ◌∙◌}
use mathlib.Core.Logic.{◌⊎◌, inl, inr, ⊎_elim}
use mathlib.Core.Bool.{Bool, true, false, cond, true≢false}
use mathlib.Core.List.Memᴰ
use mathlib.Core.List.Pairwise
use mathlib.Core.List.{List, [], ◌∷◌, ◌++◌, append-nil, Memᴰ}
use lib.ListN.{length}
use lib.IntN.{ℤ}
use Rattle.std.specs.Prelude.{Option, Some, None}
use Rattle.order.specs.Positions.{shared}
use Rattle.order.specs.Jobs.{owns, Apart, Separate, Ended}
use Rattle.order.proofs.OneJob.{apart-of-shared, separate-cons}
use Rattle.order.proofs.AnyOrder.{separate-ended}
use Rattle.evc.specs.declared.Job.{Job}
use Rattle.evc.specs.declared.Part.{Part}
use Rattle.evc.specs.declared.SubBlock.{SubBlock}
use Rattle.evc.specs.declared.Component.{Component}
use Rattle.evc.specs.declared.Component.TheVariants.{Y, U, «V»}
use Rattle.evc.specs.Answers.{number, SubReply, accepted, refused_at}
use Rattle.evc.specs.Tests.{first}
use Rattle.evc.specs.Reports.{Entry, tests, Named, named, first_named}
use Rattle.evc.specs.Jobs.{area, job_number, block_jobs}
use Rattle.evc.specs.SubBlocks.{or_else, luma, chroma, luma_entries, chroma_entries, luma_tests, chroma_tests, is_some, overlap, given, both, pair_yu, pair_yv, pair_uv, flagged, sub_reply, sub_exit}
use Rattle.evc.proofs.Tests.{number-some, unbroken}
use Rattle.evc.proofs.Jobs.{accept, accepted-as, lawful}

-- ---- a sub-block's answer goes component by component: the first of Y, U, V that is flagged and has a broken test, with the lowest
-- number of its own; where none has, the first flagged pair of YU, YV, UV that shares a sample, naming the later
named-first : (c : Component) (es : List Entry) (rest : List Named)
    → first_named (named c es ++ rest) ≡ or_else c (first (tests es)) (first_named rest)
named-first c [] rest = refl
named-first c (e ∷ es) rest = go e.test.broken (named-first c es rest)
  where
    some : (n : ℕ) → 1 ≤ n → refused_at c n ≡ or_else c n (first_named rest)
    some zero h = absurd (omega arith)
    some (suc n) h = refl

    go : (b : Bool) → first_named (named c es ++ rest) ≡ or_else c (first (tests es)) (first_named rest)
        → cond b (refused_at c (number e.test.refusal)) (first_named (named c es ++ rest))
        ≡ or_else c (cond b (number e.test.refusal) (first (tests es))) (first_named rest)
    go true ih = some (number e.test.refusal) (number-some e.test.refusal)
    go false ih = ih

pub named-last : (c : Component) (es : List Entry) → first_named (named c es) ≡ or_else c (first (tests es)) accepted
named-last c es = ap first_named (sym (append-nil (named c es))) ∙ named-first c es []

pub sub-by-component : (n : ℕ) (s : SubBlock)
    → sub_reply n s
    ≡ or_else Y (first (tests (given s.y (luma_entries n s))))
    (or_else U (first (tests (given s.u (chroma_entries n s))))
    (or_else «V» (first (tests (given s.v (chroma_entries n s))))
    (or_else U (first (tests (pair_yu s)))
    (or_else «V» (first (tests (pair_yv s)))
    (or_else «V» (first (tests (pair_uv s))) accepted)))))
unfolding sub_reply
sub-by-component n s =
    rw (
      named-first Y (given s.y (luma_entries n s)),
      named-first U (given s.u (chroma_entries n s)),
      named-first «V» (given s.v (chroma_entries n s)),
      named-first U (pair_yu s),
      named-first «V» (pair_yv s),
      named-last «V» (pair_uv s),
    )

-- ---- an accepted call
-- where a sub-block is accepted, none of its groups of tests has a broken one
or_else_none : (c : Component) (n : ℕ) (rest : SubReply) → or_else c n rest ≡ accepted → (n ≡ 0) × (rest ≡ accepted)
or_else_none c zero rest e = (refl, e)
or_else_none c (suc n) rest e = let z : ◌≡◌ {A = ℕ} 0 1 = cc in absurd (omega arith)

-- what an accepted call knows of its flagged components and pairs
pub record AllPassed (n : ℕ) (s : SubBlock) : Type 0 where
  pub y : (c : Part) → s.y ≡ Some c → first (luma_tests n s c) ≡ 0
  pub u : (c : Part) → s.u ≡ Some c → first (chroma_tests n s c) ≡ 0
  pub v : (c : Part) → s.v ≡ Some c → first (chroma_tests n s c) ≡ 0
  pub yu : (c d : Part) → s.y ≡ Some c → s.u ≡ Some d → first ((overlap (luma s c) (chroma s d)).test ∷ []) ≡ 0
  pub yv : (c d : Part) → s.y ≡ Some c → s.v ≡ Some d → first ((overlap (luma s c) (chroma s d)).test ∷ []) ≡ 0
  pub uv : (c d : Part) → s.u ≡ Some c → s.v ≡ Some d → first ((overlap (chroma s c) (chroma s d)).test ∷ []) ≡ 0

-- what holds of the tests of all flagged components holds of those of one, and so it is with pairs
of-given : (p : Option Part) (f : Part → List Entry) (c : Part) → first (tests (given p f)) ≡ 0 → p ≡ Some c → first (tests (f c)) ≡ 0
of-given p f c e q = ap (λ x. first (tests (given x f))) (sym q) ∙ e

of-both : (p q : Option Part) (f : Part → Part → List Entry) (c d : Part) → first (tests (both p q f)) ≡ 0 → p ≡ Some c → q ≡ Some d → first (tests (f c d)) ≡ 0
of-both p q f c d e a b = of-given q (f c) d (of-given p (λ c. given q (f c)) c e a) b

pub all-passed : (n : ℕ) (s : SubBlock) → sub_reply n s ≡ accepted → AllPassed n s
all-passed n s e =
    let a = or_else_none Y _ _ (sym (sub-by-component n s) ∙ e) in
    let b = or_else_none U _ _ a.1 in
    let c = or_else_none «V» _ _ b.1 in
    let d = or_else_none U _ _ c.1 in
    let f = or_else_none «V» _ _ d.1 in
    let g = or_else_none «V» _ _ f.1 in
    record {
      y = λ x. of-given s.y (luma_entries n s) x a.0;
      u = λ x. of-given s.u (chroma_entries n s) x b.0;
      v = λ x. of-given s.v (chroma_entries n s) x c.0;
      yu = λ x y. of-both s.y s.u (λ c d. overlap (luma s c) (chroma s d) ∷ []) x y d.0;
      yv = λ x y. of-both s.y s.v (λ c d. overlap (luma s c) (chroma s d) ∷ []) x y f.0;
      uv = λ x y. of-both s.u s.v (λ c d. overlap (chroma s c) (chroma s d) ∷ []) x y g.0;
    }

-- a component that passes its tests is an accepted job
pub luma-accepted : (n : ℕ) (s : SubBlock) (c : Part) → first (luma_tests n s c) ≡ 0 → job_number n (luma s c) ≡ 0
luma-accepted n s c e =
    accept n (luma s c) (accepted-as 1 6 s.log2_w s.log2_h n (luma s c) (λ a b. (a, b)) (λ a b. (a, b)) (unbroken (luma_tests n s c) e))

pub chroma-accepted : (n : ℕ) (s : SubBlock) (c : Part) → first (chroma_tests n s c) ≡ 0 → job_number n (chroma s c) ≡ 0
chroma-accepted n s c e =
    accept n (chroma s c)
    (accepted-as 2 7 s.log2_w s.log2_h n (chroma s c) (λ a b. (omega arith, omega arith)) (λ a b. (omega arith, omega arith)) (unbroken (chroma_tests n s c) e))

pub none-some : (l : List ℕ) → is_some l ≡ false → l ≡ []
none-some [] e = refl
none-some (p ∷ l) e = absurd (true≢false e)

none-shared : (j k : Job) → first ((overlap j k).test ∷ []) ≡ 0 → shared (area j) (area k) ≡ []
none-shared j k e = none-some (shared (area j) (area k)) (unbroken ((overlap j k).test ∷ []) e).0

-- the members of the flagged list, one component at a time
given-cases : (p : Option Part) (f : Part → Job) (k : Job) (js : List Job) → Memᴰ k (given p (λ c. f c ∷ []) ++ js)
    → ((c : Part) × (p ≡ Some c) × (k ≡ f c)) ⊎ Memᴰ k js
given-cases (Some c) f k js (Memᴰ.head q) = inl (c, refl, q)
given-cases (Some c) f k js (Memᴰ.tail m) = inr m
given-cases None f k js m = inr m

given-last : (p : Option Part) (f : Part → Job) (k : Job) → Memᴰ k (given p (λ c. f c ∷ [])) → ((c : Part) × (p ≡ Some c) × (k ≡ f c)) ⊎ Memᴰ k []
given-last p f k m = given-cases p f k [] (subst (Memᴰ k) (sym (append-nil (given p (λ c. f c ∷ [])))) m)

given-separate : (n : ℕ) (p : Option Part) (f : Part → Job) (js : List Job)
    → ((c : Part) → p ≡ Some c → (k : Job) → Memᴰ k js → Apart (owns block_jobs n) (f c) k)
    → Separate block_jobs n js → Separate block_jobs n (given p (λ c. f c ∷ []) ++ js)
given-separate n (Some c) f js h w = separate-cons block_jobs n (f c) js (h c refl) w
given-separate n None f js h w = w

given-alone : (n : ℕ) (p : Option Part) (f : Part → Job) → Separate block_jobs n (given p (λ c. f c ∷ []))
given-alone n p f =
    subst (Separate block_jobs n) (append-nil (given p (λ c. f c ∷ []))) (given-separate n p f [] (λ c q k m. absurd (Memᴰ.not-nil m)) Pairwise.nil)

-- a member that is i, one of a pair that passed, is apart from the other
apart-as : (n : ℕ) (j i k : Job) → k ≡ i → first ((overlap j i).test ∷ []) ≡ 0 → Apart (owns block_jobs n) j k
apart-as n j i k q z = subst (λ (x : Job). Apart (owns block_jobs n) j x) (sym q) (apart-of-shared block_jobs n j i (none-shared j i z))

module _ (n : ℕ) (s : SubBlock) (e : sub_reply n s ≡ accepted) where
  passed : AllPassed n s
  passed = all-passed n s e

  abbrev of_v : List Job
  of_v = given s.v (λ c. chroma s c ∷ [])

  abbrev of_uv : List Job
  of_uv = given s.u (λ c. chroma s c ∷ []) ++ of_v

  uv-apart : (c : Part) → s.u ≡ Some c → (k : Job) → Memᴰ k of_v → Apart (owns block_jobs n) (chroma s c) k
  uv-apart c u k m =
      ⊎_elim (λ q. apart-as n (chroma s c) (chroma s q.0) k q.2 (passed.uv c q.0 u q.1))
      (λ z. absurd (Memᴰ.not-nil z)) (given-last s.v (chroma s) k m)

  y-apart : (c : Part) → s.y ≡ Some c → (k : Job) → Memᴰ k of_uv → Apart (owns block_jobs n) (luma s c) k
  y-apart c y k m =
      ⊎_elim (λ q. apart-as n (luma s c) (chroma s q.0) k q.2 (passed.yu c q.0 y q.1))
      (λ m. ⊎_elim (λ q. apart-as n (luma s c) (chroma s q.0) k q.2 (passed.yv c q.0 y q.1))
      (λ z. absurd (Memᴰ.not-nil z)) (given-last s.v (chroma s) k m))
      (given-cases s.u (chroma s) k of_v m)

  -- the flagged components' jobs share no sample
  pub flagged-separate : Separate block_jobs n (flagged s)
  flagged-separate =
      given-separate n s.y (luma s) of_uv y-apart
      (given-separate n s.u (chroma s) of_v uv-apart
      (given-alone n s.v (chroma s)))

  -- and each of them is accepted by itself
  pub flagged-accepted : (j : Job) → Memᴰ j (flagged s) → job_number n j ≡ 0
  flagged-accepted j m =
      ⊎_elim (λ q. accepted-is (luma s q.0) q.2 (luma-accepted n s q.0 (passed.y q.0 q.1)))
      (λ m. ⊎_elim (λ q. accepted-is (chroma s q.0) q.2 (chroma-accepted n s q.0 (passed.u q.0 q.1)))
      (λ m. ⊎_elim (λ q. accepted-is (chroma s q.0) q.2 (chroma-accepted n s q.0 (passed.v q.0 q.1)))
      (λ z. absurd (Memᴰ.not-nil z)) (given-last s.v (chroma s) j m))
      (given-cases s.u (chroma s) j of_v m))
      (given-cases s.y (luma s) j of_uv m)
    where
      accepted-is : (i : Job) → j ≡ i → job_number n i ≡ 0 → job_number n j ≡ 0
      accepted-is i q z = ap (job_number n) q ∙ z

-- an accepted sub-block: each flagged component's area ends as its own job makes it from its first contents, all else is unchanged
pub sub-ended : (s : SubBlock) (b : List ℤ) → sub_reply (length b) s ≡ accepted → Ended block_jobs b (flagged s) (sub_exit s b)
unfolding sub_exit
sub-ended s b e = rw e (separate-ended lawful b (flagged s) (flagged-separate (length b) s e))

-- a refused one changes nothing
pub sub-refused : (s : SubBlock) (b : List ℤ) (c : Component) (n : ℕ) → sub_reply (length b) s ≡ refused_at c n → sub_exit s b ≡ b
unfolding sub_exit
sub-refused s b c n e = rw e
