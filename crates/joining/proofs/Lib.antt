-- A text k places further on (Places, and Relocated for what it draws), a body read alone (Bodies), two texts made one (Seams). Request 14 stands in Joining, carried to
-- answers by JoinedAnswers, and in Placing; JoinedTexts has the texts that show it. Layers, Sums, Appended, Parted, FlatSeam and Together are the way there.
pub mod Places
pub mod Bodies
pub mod Relocated
pub mod Seams
pub mod Placing
pub mod Layers
pub mod Sums
pub mod Appended
pub mod Parted
pub mod FlatSeam
pub mod Together
pub mod Joining
pub mod JoinedAnswers
pub mod JoinedTexts
