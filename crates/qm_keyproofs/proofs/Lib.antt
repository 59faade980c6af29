mod Descent
mod Folding
mod Verdicts
mod Speaking
mod Absences
