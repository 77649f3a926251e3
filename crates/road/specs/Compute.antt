-- One name under which a theorem by computation opens every definition.
use Rattle.road.specs.Base.{first_from, first_that, last_that, count_from, sum_of, joined}
use Rattle.file_numbers.specs.Reading.{many}
use Rattle.file_numbers.specs.Number.{groups, bits_in, bits, byte_count, shortest_in, shortest, sound, number, signed_of}
use Rattle.days.specs.Day.{leap_year, month_days, gregorian, is_day}
use Rattle.road.specs.File.{fitting, date, number_is, dated_fields, contract_fields, field, choice, signed, element, tangent, point, head_fields, plan_fields, profile_fields, crossfall_fields, fields, ended, read}
use Rattle.road.specs.Limits.{speed, cell, radius_min_at, clothoid_at, limits_at, limits_of, limits}
use Rattle.road.specs.Lane.{lane_width}
use Rattle.integers.specs.Rounding.{round, rounded}
use Rattle.road.specs.Exact.{element_start, tangent_start, total, element_at, tangent_at, point_at, rise, start_height, tangent_height, in_curve, curve_at, curve_height, height, grade, crossfall_by, crossfall, edge_drop, edge, end_curvature, clothoid_curvature, curvature_on, curvature}
use Rattle.road.specs.Listed.{multiples, element_ends, curve_stations, stations, insert, ascending, listed, least_from, next_listed}
use Rattle.road.specs.Rules.{first_arc, own_arc, other_total, may_follow, wrong_kind, wrong_egg, wrong_link, short_straight, short_egg, below_parameter, too_short, short_clothoid, sharp_vertex, misplaced, wrong_side, wrong_crossfall, steep_ramp, changes_between, allowed, changes_on, wrong_superelevation, first_broken, judge, judged, accepted}
use Rattle.decimal.specs.Decimal.{digits_in, digits, decimal, spaced, word, after_word, digits_value, value, number_in}
use Rattle.road.specs.Line.{printed_edge, printed, line}
use Rattle.road.specs.Machine.{row_answer, overwrite, row_buffer, next_answer, step, trace}
use Rattle.road.specs.Blade.{blade, one_curve, bound}
use Rattle.road.specs.Demand.{rows_of}
use Rattle.road.specs.Listing.{calls_from, listing_calls, listing_rows, refusal_line, listing, list_of}

unfoldable pub computed : Unit {0}
unfolding
    first_from first_that last_that count_from sum_of joined many
    groups bits_in bits byte_count shortest_in shortest sound number
    leap_year month_days gregorian is_day
    fitting date number_is dated_fields contract_fields field choice signed_of signed element tangent point head_fields plan_fields profile_fields crossfall_fields fields ended read
    speed cell radius_min_at clothoid_at limits_at limits_of limits lane_width
    round rounded
    element_start tangent_start total element_at tangent_at point_at rise start_height tangent_height in_curve curve_at curve_height height grade crossfall_by crossfall edge_drop edge end_curvature clothoid_curvature curvature_on curvature
    multiples element_ends curve_stations stations insert ascending listed least_from next_listed
    first_arc own_arc other_total may_follow wrong_kind wrong_egg wrong_link short_straight short_egg below_parameter too_short short_clothoid sharp_vertex misplaced wrong_side wrong_crossfall steep_ramp changes_between allowed changes_on wrong_superelevation first_broken judge judged accepted
    digits_in digits decimal spaced printed_edge printed line
    row_answer overwrite row_buffer next_answer step trace
    rows_of word after_word digits_value value number_in blade one_curve bound
    calls_from listing_calls listing_rows refusal_line listing list_of
computed = tt
