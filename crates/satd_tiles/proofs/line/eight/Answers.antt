-- `satd_tiles::line::eight` meets its contract: the sums and the differences fit, and their lines of 4 are the line of 8 (`two-lines` of
-- proofs/Lines.antt). Assumes nothing.
use Rattle.std.proofs.Common.{◌≡◌, ℕ, ℤ, List, [], ◌∷◌, map, sym, ap, ap₂, ◌∙◌, subst}
use mir.Syntax.{w32}
use mir.Val.{to_z, of_z}
use Rattle.integers.proofs.Expr.{Ex, Known, var, add, sub, stored, val, raw, small, machines, fit, reads_all, within}
use Rattle.satd_tiles.specs.Passes.{place, RowWithin, whole_line}
use Rattle.satd_tiles.proofs.Lines.{sums, differences, joined, two-lines, four-within, whole-within}
use Rattle.satd_tiles.proofs.line.eight.Goals.{Start}
use Rattle.satd_tiles.proofs.line.eight.Goals as goal

abbrev input : Start → List ℤ
input s = s.args.x0 ∷ s.args.x1 ∷ s.args.x2 ∷ s.args.x3 ∷ s.args.x4 ∷ s.args.x5 ∷ s.args.x6 ∷ s.args.x7 ∷ []

abbrev ρ : Start → ℕ → Known
ρ s k = small w32 (place (input s) k) 262144 (record { bound = s.requires k }) tt

-- what is handed to `four`, and that it is what its expressions say
abbrev handed : List Ex → Start → List ℤ
handed es s = map (raw (machines (ρ s))) (map (stored w32) es)

sums-are : (s : Start) → handed sums s ≡ map (val (place (input s))) sums
sums-are s = reads_all (ρ s) (map (stored w32) sums) tt

differences-are : (s : Start) → handed differences s ≡ map (val (place (input s))) differences
differences-are s = reads_all (ρ s) (map (stored w32) differences) tt

sums-within : (s : Start) → RowWithin 524288 (map (val (place (input s))) sums)
sums-within s =
    four-within _ _ _ _ (within (ρ s) (add (var 0) (var 4))).bound (within (ρ s) (add (var 1) (var 5))).bound
    (within (ρ s) (add (var 2) (var 6))).bound (within (ρ s) (add (var 3) (var 7))).bound

differences-within : (s : Start) → RowWithin 524288 (map (val (place (input s))) differences)
differences-within s =
    four-within _ _ _ _ (within (ρ s) (sub (var 0) (var 4))).bound (within (ρ s) (sub (var 1) (var 5))).bound
    (within (ρ s) (sub (var 2) (var 6))).bound (within (ρ s) (sub (var 3) (var 7))).bound

-- four coefficients as they are read from their array
abbrev four_read : List ℤ → List ℤ
four_read r = map (λ i. to_z w32 (of_z w32 (place r i))) (0 ∷ 1 ∷ 2 ∷ 3 ∷ [])

kept : {r : List ℤ} (x : List ℤ) → RowWithin 524288 x → r ≡ whole_line 4 x → four_read r ≡ place r 0 ∷ place r 1 ∷ place r 2 ∷ place r 3 ∷ []
kept {r} x h e =
    reads_all (λ k. small w32 (place r k) 2097152 (record { bound = rw e (whole-within 524288 4 x h k) }) tt) (var 0 ∷ var 1 ∷ var 2 ∷ var 3 ∷ []) tt

pub overflow_add-x0 : goal.overflow_add-x0
overflow_add-x0 c = fit (ρ c) w32 (add (var 0) (var 4)) tt

pub overflow_add-x1 : goal.overflow_add-x1
overflow_add-x1 c = fit (ρ c) w32 (add (var 1) (var 5)) tt

pub overflow_add-x2 : goal.overflow_add-x2
overflow_add-x2 c = fit (ρ c) w32 (add (var 2) (var 6)) tt

pub overflow_add-x3 : goal.overflow_add-x3
overflow_add-x3 c = fit (ρ c) w32 (add (var 3) (var 7)) tt

pub four-requires : goal.four-requires
four-requires c = subst (RowWithin 524288) (sym (sums-are c)) (sums-within c)

pub overflow_sub-x0 : goal.overflow_sub-x0
overflow_sub-x0 c = fit (ρ (goal.at.overflow_sub-x0 c).Start) w32 (sub (var 0) (var 4)) tt

pub overflow_sub-x1 : goal.overflow_sub-x1
overflow_sub-x1 c = fit (ρ (goal.at.overflow_sub-x1 c).Start) w32 (sub (var 1) (var 5)) tt

pub overflow_sub-x2 : goal.overflow_sub-x2
overflow_sub-x2 c = fit (ρ (goal.at.overflow_sub-x2 c).Start) w32 (sub (var 2) (var 6)) tt

pub overflow_sub-x3 : goal.overflow_sub-x3
overflow_sub-x3 c = fit (ρ (goal.at.overflow_sub-x3 c).Start) w32 (sub (var 3) (var 7)) tt

pub four-requires-2 : goal.four-requires-2
four-requires-2 c =
    let s = (goal.at.four-requires-2 c).Start in subst (RowWithin 524288) (sym (differences-are s)) (differences-within s)

pub returns : goal.returns
returns c =
    let s = (goal.at.returns c).Start in
    let l = c.four.ensures ∙ ap (whole_line 4) (sums-are s) in
    let h = c.four-2.ensures ∙ ap (whole_line 4) (differences-are s) in
    ap₂ joined (kept _ (sums-within s) l) (kept _ (differences-within s) h) ∙ ap₂ joined l h ∙ two-lines (input s)
