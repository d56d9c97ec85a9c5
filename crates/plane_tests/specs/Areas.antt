-- AREA by the numbers that the code has: a buffer's length and its plane's sides. Cited by src/tests.rt; each is, by its definition, what
-- evc says of a plane. Assumes nothing.
use Rattle.std.specs.Prelude.{ℕ, ◌+◌, Bool, ◌||◌, ltb, ℤ}
use Rattle.order.specs.Positions.{reach}
use Rattle.evc.specs.Tests.{outside}
use Rattle.evc.specs.Planes.{past_edge}

-- a plane of n samples breaks document 01's rule
abbrev pub is_bad_plane : ℕ → ℕ → ℕ → ℕ → Bool
is_bad_plane n width height stride =
    outside 1 16384 width || outside 1 16384 height || ltb stride width || ltb n (reach 0 width stride height)

-- w by h samples from (x, y) don't lie inside it
abbrev pub is_outside_plane : ℕ → ℕ → ℕ → ℕ → ℕ → ℕ → ℕ → ℕ → Bool
is_outside_plane n width height stride x y w h = is_bad_plane n width height stride || ltb width (x + w) || ltb height (y + h)

-- the same where x and y may be negative
abbrev pub is_outside_edges : ℕ → ℕ → ℕ → ℕ → ℤ → ℤ → ℕ → ℕ → Bool
is_outside_edges n width height stride x y w h = is_bad_plane n width height stride || past_edge x w width || past_edge y h height
