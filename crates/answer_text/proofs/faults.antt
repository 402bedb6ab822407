-- Where bytes are no answer's text: the line of the fault.
pub mod BodyFaults
pub mod FaultLaws
pub mod FaultsOfParts
