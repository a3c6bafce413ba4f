pub mod FaultLaws
pub mod QuietLaws
pub mod PathLaws
