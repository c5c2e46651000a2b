pub mod Inner
pub mod InnerLaws
pub mod Calls
pub mod CallLaws
pub mod RoundTrips
pub mod RoundTripLaws
pub mod SensedProducts
pub mod SensedProductLaws
