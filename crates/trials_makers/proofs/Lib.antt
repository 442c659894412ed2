mod SplitWorked
mod StayedWorked
