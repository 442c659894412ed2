-- the text that tells where loops settle
pub mod BoxLines
-- what a certificate calls for
pub mod Calling
-- the script, and what is answered and printed once the files are read
pub mod Answering
-- loops by either machine
pub mod Loops
-- where all loops settle
pub mod Settled
