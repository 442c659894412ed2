mod ListedWorked
mod PlayedWorked
mod SolvedWorked
