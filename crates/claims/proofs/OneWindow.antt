-- An entry that doesn't leave its page is fetched exactly if it lies whole in a single window.
use Rattle.image.proofs.WindowEntries.{single}
use Rattle.claims.specs.OneWindow.{WholeInOneWindow}

pub whole-in-one-window : WholeInOneWindow
whole-in-one-window windows bytes fine n at page = single windows bytes fine n at page
