pub mod Laws
pub mod Carried
pub mod Machine
pub mod MachineLaws
pub mod ErrorSums
-- ---- the fraction bits
pub mod Choice
-- ---- the errors by the residuals that the gains really leave
pub mod RealLaws
pub mod Gains
pub mod Made
-- ---- the runs of the accelerated machine
pub mod CarriedErrors
pub mod RunSums
