mod Overlays
mod Names
mod StepLengths
mod Bracketed
mod HeadViews
mod Exprs
mod LineViews
mod ReadBack
