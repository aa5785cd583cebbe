-- Types, variables and values are read again as they were written.
use Rattle.px_terms.specs.declared.types.ValueType.TheVariants as V
use Rattle.px_terms.specs.declared.types.BlockType.TheVariants as B
use Rattle.px_terms.specs.declared.variables.Sort.TheVariants as S
use Rattle.px_terms.specs.declared.types.Value.TheVariants as W
use Rattle.px_spelling.specs.Lists.{any_number}
use Rattle.px_spelling.specs.Types.{type_id_bytes, IsTypeId, type_id_at, type_id_of, value_type_bytes, IsValueType, value_type_at, value_type_with, block_type_bytes, IsBlockType, block_type_at, block_type_with, var_bytes, IsVar, var_at, var_of, sort_bytes, IsSort, sort_at, sort_with, var_info_bytes, IsVarInfo, var_info_at, var_info_of, value_bytes, IsValue, value_at, value_with}
use Rattle.px_spelling.proofs.RoundTrip.{RoundTrip, done_reads, ◌⊛◌, tagged, u32_round_trip, i32_round_trip, list_round_trip}

pub type_id_round_trip : RoundTrip type_id_bytes IsTypeId type_id_at
unfolding type_id_at
type_id_round_trip s fits = done_reads type_id_of ⊛ u32_round_trip s.0 fits

pub value_type_round_trip : RoundTrip value_type_bytes IsValueType value_type_at
unfolding value_type_at value_type_with
value_type_round_trip V.Int fits = tagged 0 value_type_with (done_reads V.Int)
value_type_round_trip (V.Pointer a) fits = tagged 1 value_type_with (done_reads V.Pointer ⊛ type_id_round_trip a fits)

pub block_type_round_trip : RoundTrip block_type_bytes IsBlockType block_type_at
unfolding block_type_at block_type_with
block_type_round_trip (B.One a) fits = tagged 0 block_type_with (done_reads B.One ⊛ value_type_round_trip a fits)
block_type_round_trip (B.Fields a) fits = tagged 1 block_type_with (done_reads B.Fields
    ⊛ list_round_trip value_type_bytes IsValueType value_type_at any_number value_type_round_trip a fits)
block_type_round_trip B.Opaque fits = tagged 2 block_type_with (done_reads B.Opaque)

pub var_round_trip : RoundTrip var_bytes IsVar var_at
unfolding var_at
var_round_trip s fits = done_reads var_of ⊛ u32_round_trip s.0 fits

pub sort_round_trip : RoundTrip sort_bytes IsSort sort_at
unfolding sort_at sort_with
sort_round_trip S.Given fits = tagged 0 sort_with (done_reads S.Given)
sort_round_trip S.Cell fits = tagged 1 sort_with (done_reads S.Cell)
sort_round_trip S.Input fits = tagged 2 sort_with (done_reads S.Input)
sort_round_trip S.Made fits = tagged 3 sort_with (done_reads S.Made)

pub var_info_round_trip : RoundTrip var_info_bytes IsVarInfo var_info_at
unfolding var_info_at
var_info_round_trip s fits = done_reads var_info_of ⊛ sort_round_trip s.sort fits.0 ⊛ value_type_round_trip s.value fits.1

pub value_round_trip : RoundTrip value_bytes IsValue value_at
unfolding value_at value_with
value_round_trip (W.Word a) fits = tagged 0 value_with (done_reads W.Word ⊛ i32_round_trip a fits)
value_round_trip W.Null fits = tagged 1 value_with (done_reads W.Null)
value_round_trip (W.Block a) fits = tagged 2 value_with (done_reads W.Block ⊛ u32_round_trip a fits)
value_round_trip W.Unwritten fits = tagged 3 value_with (done_reads W.Unwritten)
