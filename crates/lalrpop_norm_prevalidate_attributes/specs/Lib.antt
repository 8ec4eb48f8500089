pub mod CfgFaults
pub mod AttributeFaults
pub mod EnabledAlternatives
