-- The distortion calls: what each compares, its tests, its answer. Document 01, "Refusal numbers" and "Distortion".
-- The arguments stand in the order of the code's. Assumes nothing.
use Rattle.std.specs.Prelude.{ℕ, ◌*◌, ◌-◌, ◌/◌, ◌%◌, ◌^◌, ◌||◌, List, [], ◌∷◌, ◌++◌, ltb, eqb, length, ℤ, pos}
use Rattle.integers.specs.Lists.{written}
use Rattle.order.specs.Jobs.{if_accepted}
use Rattle.evc.specs.declared.Refusal.TheVariants.{Size, Depth, Area, Sample}
use Rattle.evc.specs.Answers.{Reply}
use Rattle.evc.specs.Tests.{Test, ◌when◌, first, reply, outside, log_sizes, samples_of}
use Rattle.evc.specs.Planes.{Plane, Block, any_bad, in_plane, in_packed, at_edges, bi_packed}
use Rattle.evc.specs.Differences.{difference, diff_at, sad_total, ssd_total}
use Rattle.evc.specs.Tiles.{tile_side, satd_total}

-- ---- tests that the calls share
abbrev pub depth_test : ℕ → Test
depth_test depth = Depth when outside 8 14 depth

abbrev pub area_tests : Block → Block → List Test
area_tests a b = (Area when a.area) ∷ (Area when b.area) ∷ []

abbrev pub tests_of_samples : ℕ → ℕ → Block → Block → List Test
tests_of_samples w h a b = (Sample when any_bad w h a) ∷ (Sample when any_bad w h b) ∷ []

-- the tests of a call that compares the blocks a and b, after those of its sizes
abbrev pub compare_tests : List Test → ℕ → ℕ → ℕ → Block → Block → List Test
compare_tests sizes w h depth a b = sizes ++ (depth_test depth ∷ (area_tests a b ++ tests_of_samples w h a b))

-- ---- the sides that a call allows
abbrev pub sad_sizes : ℕ → ℕ → List Test
sad_sizes w h = (Size when outside 1 64 w) ∷ (Size when outside 1 64 h) ∷ []

abbrev pub satd_sizes : ℕ → ℕ → List Test
satd_sizes w h = (Size when (outside 2 64 w || eqb (w % 2) 1)) ∷ (Size when (outside 2 64 h || eqb (h % 2) 1)) ∷ []

-- ---- SAD: the total divided by 2^(depth-8), once
unfoldable pub sad_reply : ℕ → ℕ → ℕ → Block → Block → Reply ℕ
sad_reply w h depth a b = reply (first (compare_tests (sad_sizes w h) w h depth a b)) (sad_total w h (difference a b) / 2 ^ (depth - 8))

abbrev pub sad_16b : Plane ℕ → ℕ → ℕ → Plane ℕ → ℤ → ℤ → ℕ → ℕ → ℕ → Reply ℕ
sad_16b org x y ref mvx mvy w h depth = sad_reply w h depth (in_plane org x y w h depth) (at_edges ref mvx mvy w h depth)

abbrev pub sad_bi_16b : List ℤ → Plane ℕ → ℤ → ℤ → ℕ → ℕ → ℕ → Reply ℕ
sad_bi_16b bi ref mvx mvy w h depth = sad_reply w h depth (bi_packed bi w h) (at_edges ref mvx mvy w h depth)

abbrev pub sad_16i : Plane ℕ → ℕ → ℕ → ℕ → ℕ → List ℕ → ℕ → Reply ℕ
sad_16i org x y w h pred depth = sad_reply w h depth (in_plane org x y w h depth) (in_packed pred w h depth)

abbrev pub sad_bi_16i : List ℤ → List ℕ → ℕ → ℕ → ℕ → Reply ℕ
sad_bi_16i bi pred w h depth = sad_reply w h depth (bi_packed bi w h) (in_packed pred w h depth)

-- ---- SSD: each square is divided by 2^(2·(depth-8)) before it is added
unfoldable pub ssd_reply : ℕ → ℕ → ℕ → Block → Block → Reply ℤ
ssd_reply logw logh depth a b =
    reply (first (compare_tests (log_sizes logw logh) (2 ^ logw) (2 ^ logh) depth a b))
    (pos (ssd_total (2 * (depth - 8)) (2 ^ logw) (2 ^ logh) (difference a b)))

abbrev pub ssd_16b : Plane ℕ → ℕ → ℕ → ℕ → ℕ → List ℕ → ℕ → Reply ℤ
ssd_16b org x y logw logh cur depth = ssd_reply logw logh depth (in_plane org x y (2 ^ logw) (2 ^ logh) depth) (in_packed cur (2 ^ logw) (2 ^ logh) depth)

abbrev pub ssd_16i : Plane ℕ → Plane ℕ → ℤ → ℤ → ℕ → ℕ → ℕ → Reply ℤ
ssd_16i one two x y logw logh depth = ssd_reply logw logh depth (at_edges one x y (2 ^ logw) (2 ^ logh) depth) (at_edges two x y (2 ^ logw) (2 ^ logh) depth)

-- ---- SATD: each tile's DC is divided by 4, then the total by 2^(depth-8)
unfoldable pub satd_reply : ℕ → ℕ → ℕ → Block → Block → Reply ℕ
satd_reply w h depth a b =
    reply (first (compare_tests (satd_sizes w h) w h depth a b)) (satd_total (tile_side w h) w h (difference a b) / 2 ^ (depth - 8))

abbrev pub satd_16b : Plane ℕ → ℕ → ℕ → ℕ → ℕ → List ℕ → ℕ → Reply ℕ
satd_16b org x y w h cur depth = satd_reply w h depth (in_plane org x y w h depth) (in_packed cur w h depth)

-- ---- DIFF: the differences, row after row, into a buffer of n numbers
abbrev pub diff_tests : ℕ → ℕ → ℕ → ℕ → Block → Block → List Test
diff_tests n logw logh depth a b =
    log_sizes logw logh
    ++ (depth_test depth ∷ (area_tests a b ++ ((Area when ltb n (samples_of logw logh)) ∷ tests_of_samples (2 ^ logw) (2 ^ logh) a b)))

unfoldable pub diff_number : ℕ → ℕ → ℕ → ℕ → Block → Block → ℕ
diff_number n logw logh depth a b = first (diff_tests n logw logh depth a b)

-- the buffer at the end: its first places hold the differences, the rest is as it was
unfoldable pub diff_exit : ℕ → ℕ → ℕ → Block → Block → List ℤ → List ℤ
diff_exit logw logh depth a b out =
    if_accepted (diff_number (length out) logw logh depth a b) (written (samples_of logw logh) (diff_at (2 ^ logw) (difference a b)) out) out

abbrev pub diff_16b_number : ℕ → Plane ℕ → ℕ → ℕ → ℕ → ℕ → List ℕ → ℕ → ℕ
diff_16b_number n org x y logw logh cur depth =
    diff_number n logw logh depth (in_plane org x y (2 ^ logw) (2 ^ logh) depth) (in_packed cur (2 ^ logw) (2 ^ logh) depth)

abbrev pub diff_16b_exit : Plane ℕ → ℕ → ℕ → ℕ → ℕ → List ℕ → ℕ → List ℤ → List ℤ
diff_16b_exit org x y logw logh cur depth out =
    diff_exit logw logh depth (in_plane org x y (2 ^ logw) (2 ^ logh) depth) (in_packed cur (2 ^ logw) (2 ^ logh) depth) out
