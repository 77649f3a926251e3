-- Document 01, "One list, whole": the numbers of the file, and the list that is printed.
use Rattle.std.specs.Prelude.{ℕ, ◌≡◌, refl, List, [], ◌∷◌, ◌++◌, pos, negsuc, replicate}
use Rattle.file_numbers.specs.Number.{shortest, written}
use Rattle.file_numbers.specs.Reading.{got}
use Rattle.road.specs.Base.{joined}
use Rattle.road.specs.File.{Road}
use Rattle.road.specs.Rules.{accepted}
use Rattle.road.specs.Text.{printed_line}
use Rattle.road.specs.Listing.{listing}
use Rattle.road.specs.declared.Kind.TheVariants.{Straight}
use Rattle.road.specs.declared.Class.TheVariants.{Access}
use Rattle.road.specs.declared.Terrain.TheVariants.{Mountain}
use Rattle.road.specs.declared.Contract.TheVariants.{Undated}
use Rattle.road.specs.Compute.{computed}

-- "The numbers of this file, signed values shown plainly"
abbrev pub numbers : List ℕ
numbers =
    4 ∷ 3 ∷ 50_000 ∷ 5000
    ∷ 1 ∷ 0 ∷ 200_000
    ∷ written (pos 500_000) ∷ 2
    ∷ 100_000 ∷ written (pos 20_000) ∷ 20_000
    ∷ 100_000 ∷ written (negsuc 19_999)
    ∷ 2
    ∷ 0 ∷ written (negsuc 24_999) ∷ written (negsuc 24_999)
    ∷ 200_000 ∷ written (negsuc 24_999) ∷ written (negsuc 24_999)
    ∷ []

abbrev pub file : List ℕ
file = joined shortest numbers

abbrev pub road : Road
road = record {
  head = record { contract = Undated; class = Access; terrain = Mountain; step = 50_000; ramp = 5000 };
  plan = record { kind = Straight; length = 200_000; radius = pos 0 } ∷ [];
  start = pos 500_000;
  tangents = record { length = 100_000; grade = pos 20_000; half = 20_000 } ∷ record { length = 100_000; grade = negsuc 19_999; half = 0 } ∷ [];
  crossfalls = record { station = 0; left = negsuc 24_999; right = negsuc 24_999 } ∷ record { station = 200_000; left = negsuc 24_999; right = negsuc 24_999 } ∷ [];
}

-- the file is not turned away, and that is its road
pub sample_accepted : accepted file ≡ got road 48
unfolding computed
sample_accepted = refl

abbrev pub lines : List ℕ
lines =
    printed_line "0 500000 20000 -25000 -25000 499931 499931 0"
    ++ printed_line "50000 501000 20000 -25000 -25000 500931 500931 0"
    ++ printed_line "80000 501600 20000 -25000 -25000 501531 501531 0"
    ++ printed_line "100000 501800 0 -25000 -25000 501731 501731 0"
    ++ printed_line "120000 501600 -20000 -25000 -25000 501531 501531 0"
    ++ printed_line "150000 501000 -20000 -25000 -25000 500931 500931 0"
    ++ printed_line "200000 500000 -20000 -25000 -25000 499931 499931 0"

-- the listing's run on that file, in a buffer of 96 bytes, prints exactly that list
pub sample_list : listing file (replicate 96 0) ≡ lines
unfolding computed
sample_list = refl
