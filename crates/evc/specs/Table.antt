-- The transform tables. Document 01, "The transform tables". Assumes nothing.
use Rattle.std.specs.Prelude.{ℕ, ◌+◌, ◌-◌, ◌*◌, ◌/◌, ◌%◌, cond, List, [], ◌∷◌, ltb, eqb, get_or, ℤ, pos, neg_ℤ}

-- C(1) .. C(63), the whole numbers nearest to 64·√2·cos(mπ/128)
abbrev pub magnitudes : List ℕ
magnitudes =
    90 ∷ 90 ∷ 90 ∷ 90 ∷ 90 ∷ 90 ∷ 89 ∷ 89 ∷ 88 ∷ 88 ∷ 87 ∷ 87 ∷ 86 ∷ 85 ∷ 84 ∷ 84
    ∷ 83 ∷ 82 ∷ 81 ∷ 80 ∷ 79 ∷ 78 ∷ 76 ∷ 75 ∷ 74 ∷ 73 ∷ 71 ∷ 70 ∷ 69 ∷ 67 ∷ 66 ∷ 64
    ∷ 62 ∷ 61 ∷ 59 ∷ 57 ∷ 56 ∷ 54 ∷ 52 ∷ 50 ∷ 48 ∷ 47 ∷ 45 ∷ 43 ∷ 41 ∷ 39 ∷ 37 ∷ 35
    ∷ 33 ∷ 30 ∷ 28 ∷ 26 ∷ 24 ∷ 22 ∷ 20 ∷ 18 ∷ 15 ∷ 13 ∷ 11 ∷ 9 ∷ 7 ∷ 4 ∷ 2 ∷ []

abbrev pub magnitude_at : ℕ → ℤ
magnitude_at m = pos (get_or magnitudes (m - 1) 0)

-- the entry for r = (2n+1)·k mod 256, by the quarter of 256 in which r lies
abbrev pub fold : ℕ → ℤ
fold r = cond (ltb r 64) (magnitude_at r) (cond (ltb r 128) (neg_ℤ (magnitude_at (128 - r))) (cond (ltb r 192) (neg_ℤ (magnitude_at (r - 128))) (magnitude_at (256 - r))))

-- row k, column n of size 64
unfoldable pub tm64 : ℕ → ℕ → ℤ
tm64 k n = cond (eqb k 0) (pos 64) (fold ((2 * n + 1) * k % 256))

-- row k, column n of size N, which takes every (64/N)th row
abbrev pub tm : ℕ → ℕ → ℕ → ℤ
tm N k n = tm64 (k * (64 / N)) n
