use Rattle.core_interp.proofs.Totals.{same_code}
use Rattle.core_interp.proofs.computing.compute.Goals as goal

pub returns-in-69 : goal.returns-in-69
returns-in-69 c = same_code _ _ _ _ _ c.in-69.is c.code.ensures.value c.one.ensures

pub returns-in-70 : goal.returns-in-70
returns-in-70 c = same_code _ _ _ _ _ c.in-70.is c.code.ensures.value c.two.ensures

pub returns-in-71 : goal.returns-in-71
returns-in-71 c = same_code _ _ _ _ _ c.in-71.is c.code.ensures.value c.two-in-71.ensures

pub returns-in-72 : goal.returns-in-72
returns-in-72 c = same_code _ _ _ _ _ c.in-72.is c.code.ensures.value c.two-in-72.ensures

pub returns-in-73 : goal.returns-in-73
returns-in-73 c = same_code _ _ _ _ _ c.in-73.is c.code.ensures.value c.two-in-73.ensures

pub returns-in-74 : goal.returns-in-74
returns-in-74 c = same_code _ _ _ _ _ c.in-74.is c.code.ensures.value c.two-in-74.ensures

pub returns-in-75 : goal.returns-in-75
returns-in-75 c = same_code _ _ _ _ _ c.in-75.is c.code.ensures.value c.two-in-75.ensures

pub returns-in-76 : goal.returns-in-76
returns-in-76 c = same_code _ _ _ _ _ c.in-76.is c.code.ensures.value c.two-in-76.ensures

pub returns-in-77 : goal.returns-in-77
returns-in-77 c = same_code _ _ _ _ _ c.in-77.is c.code.ensures.value c.two-in-77.ensures

pub returns-in-78 : goal.returns-in-78
returns-in-78 c = same_code _ _ _ _ _ c.in-78.is c.code.ensures.value c.two-in-78.ensures

pub returns-in-79 : goal.returns-in-79
returns-in-79 c = same_code _ _ _ _ _ c.in-79.is c.code.ensures.value c.two-in-79.ensures

pub returns-in-106 : goal.returns-in-106
returns-in-106 c = same_code _ _ _ _ _ c.in-106.is c.code.ensures.value c.two-in-106.ensures

pub returns-in-107 : goal.returns-in-107
returns-in-107 c = same_code _ _ _ _ _ c.in-107.is c.code.ensures.value c.two-in-107.ensures

pub returns-in-108 : goal.returns-in-108
returns-in-108 c = same_code _ _ _ _ _ c.in-108.is c.code.ensures.value c.two-in-108.ensures

pub returns-in-113 : goal.returns-in-113
returns-in-113 c = same_code _ _ _ _ _ c.in-113.is c.code.ensures.value c.two-in-113.ensures

pub returns-in-114 : goal.returns-in-114
returns-in-114 c = same_code _ _ _ _ _ c.in-114.is c.code.ensures.value c.two-in-114.ensures

pub returns-in-115 : goal.returns-in-115
returns-in-115 c = same_code _ _ _ _ _ c.in-115.is c.code.ensures.value c.two-in-115.ensures

pub returns-in-116 : goal.returns-in-116
returns-in-116 c = same_code _ _ _ _ _ c.in-116.is c.code.ensures.value c.two-in-116.ensures

pub returns-in-117 : goal.returns-in-117
returns-in-117 c = same_code _ _ _ _ _ c.in-117.is c.code.ensures.value c.two-in-117.ensures

pub returns-in-118 : goal.returns-in-118
returns-in-118 c = same_code _ _ _ _ _ c.in-118.is c.code.ensures.value c.two-in-118.ensures

pub returns-in-119 : goal.returns-in-119
returns-in-119 c = same_code _ _ _ _ _ c.in-119.is c.code.ensures.value c.two-in-119.ensures

pub returns-in-120 : goal.returns-in-120
returns-in-120 c = same_code _ _ _ _ _ c.in-120.is c.code.ensures.value c.two-in-120.ensures
