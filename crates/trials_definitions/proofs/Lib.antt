-- The rows by what they try.

-- ---- the designs, the controllers and the bounds that they try
mod WorkedDesigns
mod WorkedControllers
-- ---- whole numbers, lists and matrices
mod QuotientsWorked
mod MatricesWorked
-- ---- the sizes and ranges of a controller
mod RangesWorked
mod LettersWorked
mod SizesWorked
-- ---- one design from its corners to its runs
mod FirstDesignWorked
mod RunErrorsWorked
-- ---- the problem, its form in enclosures and its corners
mod ProblemsWorked
mod FineWorked
mod CornersWorked
-- ---- the bounds of lean controllers
mod ExcessWorked
mod LeanWorked
-- ---- the machine, its errors and the promise
mod RunsWorked
mod StepErrorsWorked
mod PromiseAtStateWorked
mod PromiseOverBoxWorked
-- ---- the counts of files, and drawn designs
mod FaultsWorked
mod DrawsWorked
