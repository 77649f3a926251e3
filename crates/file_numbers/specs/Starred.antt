-- What document 01 says of some numbers, as theorems about the definitions.
use Rattle.std.specs.Prelude.{◌≡◌, refl, [], ◌∷◌, pos, negsuc}
use Rattle.file_numbers.specs.Reading.{got, refused}
use Rattle.file_numbers.specs.Number.{bits_in, bits, byte_count, greatest, groups, sound, number, shortest_in, shortest, signed_of, written}

pub three_hundred : number (0xAC ∷ 0x02 ∷ []) 0 ≡ got 300 2
unfolding number groups sound byte_count bits bits_in
three_hundred = refl

pub not_shortest : number (0x80 ∷ 0x00 ∷ []) 0 ≡ refused 2 0
unfolding number groups sound byte_count bits bits_in
not_shortest = refl

pub breaks-off : number (0x80 ∷ []) 0 ≡ refused 2 0
unfolding number groups sound byte_count bits bits_in
breaks-off = refl

pub empty : number [] 0 ≡ refused 2 0
unfolding number groups
empty = refl

pub past_the_end : number (0x01 ∷ []) 7 ≡ refused 2 7
unfolding number groups
past_the_end = refl

pub the_greatest : number (0xFF ∷ 0xFF ∷ 0xFF ∷ 0xFF ∷ 0x0F ∷ []) 0 ≡ got greatest 5
unfolding number groups sound byte_count bits bits_in
the_greatest = refl

pub one_more : number (0x80 ∷ 0x80 ∷ 0x80 ∷ 0x80 ∷ 0x10 ∷ []) 0 ≡ refused 2 0
unfolding number groups sound byte_count bits bits_in
one_more = refl

pub zero_takes_one : byte_count 0 ≡ 1
unfolding byte_count bits bits_in
zero_takes_one = refl

pub three_hundred_is_written : shortest 300 ≡ 0xAC ∷ 0x02 ∷ []
unfolding shortest shortest_in
three_hundred_is_written = refl

pub the_greatest_is_written : shortest greatest ≡ 0xFF ∷ 0xFF ∷ 0xFF ∷ 0xFF ∷ 0x0F ∷ []
unfolding shortest shortest_in
the_greatest_is_written = refl

pub minus-one-is-written : written (negsuc 0) ≡ 1
minus-one-is-written = refl

pub two-is-read : signed_of 2 ≡ pos 1
unfolding signed_of
two-is-read = refl
