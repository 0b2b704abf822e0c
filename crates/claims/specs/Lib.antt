pub mod Everything
pub mod FirstNamed
pub mod OneAnswer
pub mod OneWindow
pub mod ScalableClaims
pub mod ScalableLent
