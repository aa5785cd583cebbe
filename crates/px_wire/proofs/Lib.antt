pub mod Put
pub mod SinkLemmas
pub mod LimitTest
pub mod JobRoundTrips
pub mod MessageRanges
pub mod MessageRoundTrips
pub mod Listed
pub mod ShortMessages
