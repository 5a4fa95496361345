-- Quotients x ÷ w taken to whole numbers, for w above 0.
use Rattle.std.specs.Prelude.{ℤ, pos, ◌+ℤ◌, ◌*ℤ◌, neg_ℤ}
use Rattle.std.specs.Int.{int_div_euclid}

-- taken down: the largest whole number not above x ÷ w
unfoldable pub floor : ℤ → ℤ → ℤ
floor x w = int_div_euclid x w

-- taken up: the smallest whole number not below x ÷ w
unfoldable pub ceiling : ℤ → ℤ → ℤ
ceiling x w = neg_ℤ (floor (neg_ℤ x) w)

-- half up: the largest whole number not above x ÷ w + 1/2
unfoldable pub half_up : ℤ → ℤ → ℤ
half_up x w = floor (pos 2 *ℤ x +ℤ w) (pos 2 *ℤ w)
